use Rattle.std.proofs.Common.{codes}
use Rattle.hy_scope.specs.Shown.{names_of}
use Rattle.hy_scope.proofs.Keys.{named_behind}
use Rattle.hy_scope.proofs.file.predeclared_traits.Goals as goal

pub returns : goal.returns
returns c =
    named_behind (names_of c.predeclare-2.new.table) (names_of c.predeclare-3.new.table) _ c.as_slice-3.result.now (codes "Deinitializable") _
    c.in_ok-predeclare-3.ensures c.as_slice-3.ensures
    (named_behind (names_of c.predeclare.new.table) (names_of c.predeclare-2.new.table) _ c.as_slice-2.result.now (codes "Movable") _
    c.in_ok-predeclare-2.ensures c.as_slice-2.ensures
    (named_behind (names_of c.new-table.result) (names_of c.predeclare.new.table) _ c.as_slice.result.now (codes "Copyable") _ c.in_ok-predeclare.ensures
    c.as_slice.ensures
    (c.new-table.ensures)))
