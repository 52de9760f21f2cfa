use Rattle.hy_tree.specs.Denotes.{types_of}
use Rattle.hy_front.specs.Unbuilt.{in_types}
use Rattle.hy_base.proofs.Walks.{HasWalked}
use Rattle.hy_front.specs.Noted.{note}
use Rattle.hy_front.proofs.written.+written.Given as goal

abbrev pub invariant-look_at_types-loop-part : goal.invariant-look_at_types-loop-part
invariant-look_at_types-loop-part l = HasWalked note (λ (s : Unit {0}) xs. in_types (types_of xs)) tt l.parts l.fn.first l.part-index tt l.first
