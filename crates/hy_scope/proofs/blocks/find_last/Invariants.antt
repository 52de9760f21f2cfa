use Rattle.std.proofs.Common.{◌≡◌, map, reverse, length}
use Rattle.hy_tree.specs.Names.{in_blocks}
use Rattle.hy_scope.specs.Shown.{names_of}
use Rattle.hy_scope.proofs.blocks.find_last.Given as goal

abbrev pub invariant-loop-last : goal.invariant-loop-last
invariant-loop-last l = in_blocks (map names_of (reverse l.tables)) l.name ≡ in_blocks (map names_of (reverse l.rest)) l.name

abbrev pub decreases-loop-last : goal.decreases-loop-last
decreases-loop-last l = length l.rest
