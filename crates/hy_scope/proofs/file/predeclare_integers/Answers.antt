use Rattle.std.proofs.Common.{codes, refl}
use Rattle.hy_scope.specs.Shown.{names_of}
use Rattle.hy_scope.proofs.Keys.{named_behind}
use Rattle.hy_scope.proofs.file.predeclare_integers.Goals as goal

pub returns : goal.returns
returns c =
    named_behind (names_of c.predeclare-7.new.table) (names_of c.predeclare-8.new.table) _ c.as_slice-8.result.now (codes "Int") _
    c.in_ok-predeclare-8.ensures c.as_slice-8.ensures
    (named_behind (names_of c.predeclare-6.new.table) (names_of c.predeclare-7.new.table) _ c.as_slice-7.result.now (codes "UInt64") _
    c.in_ok-predeclare-7.ensures c.as_slice-7.ensures
    (named_behind (names_of c.predeclare-5.new.table) (names_of c.predeclare-6.new.table) _ c.as_slice-6.result.now (codes "UInt32") _
    c.in_ok-predeclare-6.ensures c.as_slice-6.ensures
    (named_behind (names_of c.predeclare-4.new.table) (names_of c.predeclare-5.new.table) _ c.as_slice-5.result.now (codes "UInt16") _
    c.in_ok-predeclare-5.ensures c.as_slice-5.ensures
    (named_behind (names_of c.predeclare-3.new.table) (names_of c.predeclare-4.new.table) _ c.as_slice-4.result.now (codes "UInt8") _
    c.in_ok-predeclare-4.ensures c.as_slice-4.ensures
    (named_behind (names_of c.predeclare-2.new.table) (names_of c.predeclare-3.new.table) _ c.as_slice-3.result.now (codes "Int32") _
    c.in_ok-predeclare-3.ensures c.as_slice-3.ensures
    (named_behind (names_of c.predeclare.new.table) (names_of c.predeclare-2.new.table) _ c.as_slice-2.result.now (codes "Int16") _
    c.in_ok-predeclare-2.ensures c.as_slice-2.ensures
    (named_behind (names_of c.args.table.now) (names_of c.predeclare.new.table) _ c.as_slice.result.now (codes "Int8") _ c.in_ok-predeclare.ensures
    c.as_slice.ensures
    (refl))))))))
