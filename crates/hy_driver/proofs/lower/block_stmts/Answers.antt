use Rattle.std.proofs.Common.{ap, sym, ◌∙◌}
use Rattle.hy_tree.proofs.Equations.{block_is}
use Rattle.hy_tree.specs.Denotes.{stmts_of}
use Rattle.hy_meaning.specs.Forms.{stmts_in}
use Rattle.hy_driver.proofs.lower.block_stmts.Goals as goal

pub returns : goal.returns
returns c = ap stmts_of c.as_slice.ensures ∙ sym (ap stmts_in (block_is c.args.block.now))
