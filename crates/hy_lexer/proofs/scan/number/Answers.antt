use Rattle.std.proofs.Common.{subst}
use Rattle.hy_lexer.specs.Pieces.{IsNumberByte}
use Rattle.hy_lexer.specs.Scans.{IsRun}
use Rattle.hy_lexer.proofs.Scanning.{scan_number}
use Rattle.hy_lexer.proofs.scan.number.Goals as goal

pub returns : goal.returns
returns c = scan_number c.args.text.now c.number_len.result c.utf8.text c.requires
    (subst (λ t. IsRun IsNumberByte t c.number_len.result) c.as_bytes.ensures.value c.number_len.ensures)
