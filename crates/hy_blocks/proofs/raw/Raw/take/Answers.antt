use Rattle.std.proofs.Common.{None, sym, ◌∙◌}
use Rattle.hy_blocks.proofs.Flags.{changed, filled, left, same}
use Rattle.hy_blocks.proofs.raw.Raw.take.Goals as goal

pub returns-then-not-index-clause-cell : goal.returns-then-not-index-clause-cell
returns-then-not-index-clause-cell c =
    sym (left _ _ _ c.args.at c.index.result.now c.self.view_is c.self.invariant.set_is c.requires (sym c.index.ensures ∙ c.if-not-index.true))

pub returns-then-not-index-clause-left : goal.returns-then-not-index-clause-left
returns-then-not-index-clause-left c =
    same _ c.args.at (left _ _ _ c.args.at c.index.result.now c.self.view_is c.self.invariant.set_is c.requires (sym c.index.ensures ∙ c.if-not-index.true))

pub take-requires : goal.take-requires
take-requires c = (
  sym c.self.invariant.begins,
  filled _ _ _ c.args.at c.index.result.now c.self.view_is c.self.invariant.set_is c.requires (sym c.index.ensures ∙ c.if-not-index.false),
)

pub invariant_of-self : goal.invariant_of-self
invariant_of-self c = changed _ _ _ _ _ _ _ c.args.at None c.self.invariant c.take.ensures.slots
