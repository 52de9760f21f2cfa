use Rattle.std.proofs.Common.{map}
use Rattle.hy_tree.specs.Denotes.{param_of}
use Rattle.hy_front.specs.Unbuilt.{in_params}
use Rattle.hy_base.proofs.Walks.{HasWalked}
use Rattle.hy_front.specs.Noted.{note}
use Rattle.hy_front.proofs.declaration.look_at_params.Given as goal

abbrev pub invariant-loop-p : goal.invariant-loop-p
invariant-loop-p l = HasWalked note (λ (s : Unit {0}) xs. in_params (map param_of xs)) tt l.params l.fn.first l.p-index tt l.first
