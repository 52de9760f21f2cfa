use Rattle.hy_front.specs.Unbuilt.{in_uses}
use Rattle.hy_base.proofs.Walks.{HasWalked}
use Rattle.hy_front.specs.Noted.{note}
use Rattle.hy_front.proofs.declaration.look_at_uses.Given as goal

abbrev pub invariant-loop-name : goal.invariant-loop-name
invariant-loop-name l = HasWalked note (λ (s : Unit {0}) xs. in_uses xs) tt l.names l.fn.first l.name-index tt l.first
