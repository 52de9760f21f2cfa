use Rattle.std.proofs.Common.{◌∙◌, ap}
use Rattle.hy_object.specs.declared.stuck.Kind.TheVariants as kind
use Rattle.hy_object.specs.Checks.{check, stuck}
use Rattle.hy_store.proofs.store.Store.refusal.Goals as goal

pub returns-then-is_closed : goal.returns-then-is_closed
returns-then-is_closed c = λ g s represents. ap (λ t. check s kind.Slot t (stuck s kind.Order)) (c.is_closed.ensures g s represents ∙ c.if-is_closed.true)

pub returns-else-is_closed : goal.returns-else-is_closed
returns-else-is_closed c = λ g s represents. ap (λ t. check s kind.Slot t (stuck s kind.Order)) (c.is_closed.ensures g s represents ∙ c.if-is_closed.false)
