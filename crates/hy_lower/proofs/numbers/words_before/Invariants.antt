use Rattle.std.proofs.Common.{◌≡◌, ◌+◌, length}
use Rattle.hy_lower.specs.Frames.{words_before}
use Rattle.hy_lower.proofs.numbers.words_before.Given as goal

abbrev pub invariant-loop-t : goal.invariant-loop-t
invariant-loop-t l = l.sum + words_before l.sizes l.left l.more ≡ words_before l.sizes l.types l.count

abbrev pub decreases-loop-t : goal.decreases-loop-t
decreases-loop-t l = length l.left
