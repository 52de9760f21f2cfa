use Rattle.hy_tree.specs.Findings.{find_traits}
use Rattle.hy_scope.specs.Shown.{file_of, noted}
use Rattle.hy_base.proofs.Walks.{HasWalked}
use Rattle.hy_scope.specs.Noted.{note}
use Rattle.hy_scope.proofs.written.walk_traits.Given as goal

abbrev pub invariant-loop-name : goal.invariant-loop-name
invariant-loop-name l = HasWalked note (λ (s : Unit {0}) xs. find_traits (file_of l.file) xs) tt l.names (noted l.fn.notes) l.name-index tt (noted l.notes)
