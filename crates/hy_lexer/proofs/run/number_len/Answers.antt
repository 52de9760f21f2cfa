use Rattle.std.proofs.Common.{refl}
use Rattle.hy_lexer.specs.Pieces.{IsNumberByte}
use Rattle.hy_lexer.proofs.Runs.{passes_more}
use Rattle.hy_lexer.proofs.run.number_len.Goals as goal

pub loop-byte-preserved : goal.loop-byte-preserved
loop-byte-preserved c =
    passes_more IsNumberByte c.args.bytes.now c.loop-byte.rest.now c.in-Some.behind.now c.in-Some.byte.now c.loop-byte.invariant c.in-Some.ensures.cases.0
    (c.if-not-is_number_byte.ensures.0 refl)
