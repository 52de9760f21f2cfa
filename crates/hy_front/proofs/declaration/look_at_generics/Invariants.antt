use Rattle.hy_front.specs.Unbuilt.{in_generics}
use Rattle.hy_base.proofs.Walks.{HasWalked}
use Rattle.hy_front.specs.Noted.{note}
use Rattle.hy_front.proofs.declaration.look_at_generics.Given as goal

abbrev pub invariant-loop-p : goal.invariant-loop-p
invariant-loop-p l = HasWalked note (λ (s : Unit {0}) xs. in_generics xs) tt l.generics l.fn.first l.p-index tt l.first
