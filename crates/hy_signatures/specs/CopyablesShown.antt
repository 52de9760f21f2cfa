-- What the code's table of copyable types shows.
use Rattle.std.specs.Prelude.{◌≡◌, Bool as Truth, List, Some, slice_get}
use Rattle.hy_tree.specs.declared.declaration.TypeParam.{TypeParam}
use Rattle.hy_types.specs.Types.{Table, type_of}
use Rattle.hy_types.specs.declared.kinds.TyId.{TyId}
use Rattle.hy_signatures.specs.Declarations.{Source, is_copyable}

-- of the first types of a table, whether each is copyable
abbrev pub TellCopyable : Table → Source → List TypeParam → List Truth → Type 0
TellCopyable table source generics flags = (id : TyId) (flag : Truth) → slice_get flags id.at ≡ Some flag
    → flag ≡ is_copyable source generics (type_of table id)
