use Rattle.std.proofs.Common.{◌≡◌, ◌++◌, ◌+◌, ◌*◌, length}
use Rattle.hy_lower.specs.Arrays.{arrays_below, arrays_of_parts}
use Rattle.hy_lower.proofs.arrays.+arrays.Given as goal

abbrev pub decreases-arrays_below : goal.decreases-arrays_below
decreases-arrays_below l = 2 * l.depth

abbrev pub decreases-arrays_of_parts : goal.decreases-arrays_of_parts
decreases-arrays_of_parts l = 2 * l.depth + 1

abbrev pub invariant-arrays_of_parts-loop-t : goal.invariant-arrays_of_parts-loop-t
invariant-arrays_of_parts-loop-t l =
    let arrays = arrays_below l.types l.sizes l.depth in
    l.found ++ arrays_of_parts arrays l.sizes l.at l.left ≡ l.fn.found ++ arrays_of_parts arrays l.sizes l.offset l.parts

abbrev pub decreases-arrays_of_parts-loop-t : goal.decreases-arrays_of_parts-loop-t
decreases-arrays_of_parts-loop-t l = length l.left
