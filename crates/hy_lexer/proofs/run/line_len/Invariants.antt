use Rattle.std.proofs.Common.{◌≢◌, length}
use Rattle.hy_lexer.proofs.Runs.{Passes}
use Rattle.hy_lexer.proofs.run.line_len.Given as goal

abbrev pub invariant-loop-byte : goal.invariant-loop-byte
invariant-loop-byte l = Passes (λ byte. byte ≢ 10) l.fn.bytes l.rest

abbrev pub decreases-loop-byte : goal.decreases-loop-byte
decreases-loop-byte l = length l.rest
