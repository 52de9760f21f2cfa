use Rattle.std.proofs.Common.{◌≢◌}
use Rattle.hy_lexer.proofs.Runs.{passes_more}
use Rattle.hy_lexer.proofs.run.line_len.Goals as goal

pub loop-byte-preserved : goal.loop-byte-preserved
loop-byte-preserved c =
    passes_more (λ byte. byte ≢ 10) c.args.bytes.now c.loop-byte.rest.now c.in-Some.behind.now c.in-Some.byte.now c.loop-byte.invariant
    c.in-Some.ensures.cases.0 c.if-byte-eq10.false
