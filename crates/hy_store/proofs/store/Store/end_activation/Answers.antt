use Rattle.hy_store.proofs.Returning.{passes_wanting}
use Rattle.hy_store.proofs.store.Store.end_activation.Goals as goal

pub returns-in_err-can_free : goal.returns-in_err-can_free
returns-in_err-can_free c = λ fun next. passes_wanting _ _ _ _ _ _ _ _ c.from_residual.ensures.1
