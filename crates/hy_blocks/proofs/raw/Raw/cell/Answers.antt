use Rattle.std.proofs.Common.{sym, ◌∙◌}
use Rattle.hy_blocks.proofs.Flags.{filled_all}
use Rattle.hy_blocks.proofs.raw.Raw.cell.Goals as goal

pub read-requires : goal.read-requires
read-requires c = filled_all _ _ _ c.args.at c.index.result.now c.self.view_is c.self.invariant.set_is c.requires (sym c.index.ensures ∙ c.if-not-index.false)
