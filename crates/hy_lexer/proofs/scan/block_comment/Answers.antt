use Rattle.std.proofs.Common.{subst}
use Rattle.hy_lexer.specs.Scans.{IsClosed, IsOpen}
use Rattle.hy_lexer.proofs.Scanning.{behind_two, scan_block, scan_open}
use Rattle.hy_lexer.proofs.scan.block_comment.Goals as goal

pub returns-in-Some : goal.returns-in-Some
returns-in-Some c =
    scan_block c.args.text.now c.in-Some.inner c.utf8.text c.requires
    (subst (λ t. IsClosed t c.in-Some.inner) (behind_two c.as_bytes.result.now c.args.text.now c.as_bytes.ensures.value) c.in-Some.ensures)

pub returns-in-None : goal.returns-in-None
returns-in-None c =
    scan_open c.args.text.now c.requires (subst IsOpen (behind_two c.as_bytes.result.now c.args.text.now c.as_bytes.ensures.value) c.in-None.ensures)
