use Rattle.std.proofs.Common.{length}
use Rattle.hy_lexer.specs.Pieces.{IsNumberByte}
use Rattle.hy_lexer.proofs.Runs.{Passes}
use Rattle.hy_lexer.proofs.run.number_len.Given as goal

abbrev pub invariant-loop-byte : goal.invariant-loop-byte
invariant-loop-byte l = Passes IsNumberByte l.fn.bytes l.rest

abbrev pub decreases-loop-byte : goal.decreases-loop-byte
decreases-loop-byte l = length l.rest
