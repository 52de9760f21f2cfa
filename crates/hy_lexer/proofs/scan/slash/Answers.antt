use Rattle.std.proofs.Common.{◌≡◌, true, false}
use Rattle.hy_lexer.proofs.Scanning.{slash_only}
use Rattle.hy_lexer.proofs.scan.slash.Goals as goal

pub mark-requires-clause-only : goal.mark-requires-clause-only
mark-requires-clause-only c =
    slash_only c.args.text.now c.as_bytes-bytes.result.now c.as_bytes-bytes.ensures.value c.requires
    (λ h. let clash : false ≡ true = c.if-has_second.ensures.1 h in cc) (λ h. let clash : false ≡ true = c.if-has_second-2.ensures.1 h in cc)
