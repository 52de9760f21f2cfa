use Rattle.std.proofs.Common.{◌≡◌, ◌+◌, length}
use Rattle.hy_lower.specs.Frames.{words_of}
use Rattle.hy_lower.proofs.numbers.words_of.Given as goal

abbrev pub invariant-loop-t : goal.invariant-loop-t
invariant-loop-t l = l.sum + words_of l.sizes l.left ≡ words_of l.sizes l.types

abbrev pub decreases-loop-t : goal.decreases-loop-t
decreases-loop-t l = length l.left
