use Rattle.hy_tree.specs.Denotes.{types_of}
use Rattle.hy_tree.specs.Findings.{find_types}
use Rattle.hy_scope.specs.Shown.{around_of, noted}
use Rattle.hy_base.proofs.Walks.{HasWalked}
use Rattle.hy_scope.specs.Noted.{note}
use Rattle.hy_scope.proofs.written.+written.Given as goal

abbrev pub invariant-walk_types-loop-part : goal.invariant-walk_types-loop-part
invariant-walk_types-loop-part l = HasWalked note (λ (s : Unit {0}) xs. find_types (around_of l.around) (types_of xs)) tt l.parts (noted l.fn.notes)
    l.part-index tt (noted l.notes)
