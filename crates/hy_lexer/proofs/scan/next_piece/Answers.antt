use Rattle.std.proofs.Common.{sym}
use Rattle.hy_lexer.proofs.Scanning.{mark_only, space_first}
use Rattle.hy_lexer.proofs.scan.next_piece.Goals as goal

pub mark-requires-clause-only : goal.mark-requires-clause-only
mark-requires-clause-only c = mark_only c.args.text.now c.as_bytes.result.now c.as_bytes.ensures.value c.requires (sym c.in-Mark.ensures)

pub returns-in-Space : goal.returns-in-Space
returns-in-Space c = space_first c.args.text.now c.as_bytes.result.now c.as_bytes.ensures.value c.requires c.utf8.text (sym c.in-Space.ensures)
