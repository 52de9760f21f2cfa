use Rattle.std.proofs.Common.{codes}
use Rattle.hy_scope.specs.Shown.{names_of}
use Rattle.hy_scope.proofs.Keys.{named_behind}
use Rattle.hy_scope.proofs.file.predeclared_members.Goals as goal

pub returns : goal.returns
returns c =
    named_behind (names_of c.predeclare-4.new.table) (names_of c.predeclare-5.new.table) _ c.as_slice-5.result.now (codes "copy") _
    c.in_ok-predeclare-5.ensures c.as_slice-5.ensures
    (named_behind (names_of c.predeclare-3.new.table) (names_of c.predeclare-4.new.table) _ c.as_slice-4.result.now (codes "swap_at") _
    c.in_ok-predeclare-4.ensures c.as_slice-4.ensures
    (named_behind (names_of c.predeclare-2.new.table) (names_of c.predeclare-3.new.table) _ c.as_slice-3.result.now (codes "remove_last") _
    c.in_ok-predeclare-3.ensures c.as_slice-3.ensures
    (named_behind (names_of c.predeclare.new.table) (names_of c.predeclare-2.new.table) _ c.as_slice-2.result.now (codes "append") _
    c.in_ok-predeclare-2.ensures c.as_slice-2.ensures
    (named_behind (names_of c.new-table.result) (names_of c.predeclare.new.table) _ c.as_slice.result.now (codes "count") _ c.in_ok-predeclare.ensures
    c.as_slice.ensures
    (c.new-table.ensures)))))
