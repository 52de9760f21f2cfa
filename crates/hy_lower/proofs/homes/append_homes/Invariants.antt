use Rattle.std.proofs.Common.{◌≡◌, ◌++◌, ◌+◌, length}
use Rattle.hy_lower.specs.Frames.{homes_from, words_from}
use Rattle.hy_lower.proofs.homes.append_homes.Given as goal

abbrev pub invariant-loop-t : goal.invariant-loop-t
invariant-loop-t l = record {
  homes : l.out ++ homes_from l.slots l.sizes l.local l.word l.left ≡ l.fn.out ++ homes_from l.slots l.sizes 0 0 l.locals;
  words : l.word + words_from l.slots l.sizes l.local l.left ≡ words_from l.slots l.sizes 0 l.locals;
}

abbrev pub decreases-loop-t : goal.decreases-loop-t
decreases-loop-t l = length l.left
