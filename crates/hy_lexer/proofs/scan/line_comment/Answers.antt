use Rattle.std.proofs.Common.{◌≢◌, subst}
use Rattle.hy_lexer.specs.Scans.{IsRun}
use Rattle.hy_lexer.proofs.Scanning.{behind_two, scan_line}
use Rattle.hy_lexer.proofs.scan.line_comment.Goals as goal

pub returns : goal.returns
returns c =
    scan_line c.args.text.now c.line_len.result c.requires
    (subst (λ t. IsRun (λ byte. byte ≢ 10) t c.line_len.result) (behind_two c.as_bytes.result.now c.args.text.now c.as_bytes.ensures.value) c.line_len.ensures)
