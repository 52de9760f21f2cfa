use Rattle.std.proofs.Common.{◌≡◌, List, drop}
use Rattle.hy_tree.specs.declared.declaration.TypeParam.{TypeParam}
use Rattle.hy_types.specs.Types.{Table, plain_types, type_of}
use Rattle.hy_signatures.specs.CopyablesShown.{TellCopyable}
use Rattle.hy_signatures.specs.Declarations.{Source, are_copyable}
use Rattle.hy_signatures.proofs.copyables.all_copyable.Given as goal

abbrev pub invariant-loop-part : goal.invariant-loop-part
invariant-loop-part l = (table : Table) (source : Source) (generics : List TypeParam) → TellCopyable table source generics l.flags
    → are_copyable source generics (plain_types (type_of table) (drop l.part-index l.parts))
    ≡ are_copyable source generics (plain_types (type_of table) l.parts)
