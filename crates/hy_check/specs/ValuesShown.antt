-- What the code's values show.
use Rattle.std.specs.Prelude.{◌≡◌, false, List, [], ◌∷◌, map, Option, IfSome}
use Rattle.std.specs.Option.{option_map}
use Rattle.hy_tree.specs.Denotes.{expr_of}
use Rattle.hy_tree.specs.Tree as T
use Rattle.hy_types.specs.Types.{Table, HasId, type_of}
use Rattle.hy_check.specs.Postfix as P
use Rattle.hy_check.specs.Typing.{Around, valued}
use Rattle.hy_check.specs.declared.value.Part.{Part}
use Rattle.hy_check.specs.declared.value.Value.{Value}

abbrev pub value_shown : Table → Value → P.Value
value_shown table value = record { type = type_of table value.id; is_place = value.is_place }

abbrev pub perhaps_shown : Table → Option Value → Option P.Value
perhaps_shown table value = option_map (value_shown table) value

-- the number of its type is one of the table's
abbrev pub IsKnown : Table → Option Value → Type 0
IsKnown table value = IfSome value (λ v. HasId table v.id)

-- this is the value, where there is one
pub record IsValue (table : Table) (plain : Option P.Value) (value : Option Value) : Type 0 where
  pub known : IsKnown table value
  pub is : perhaps_shown table value ≡ plain

-- the expressions of parts
abbrev pub exprs_in : List Part → List T.Expr
exprs_in parts = map (λ (part : Part). expr_of part.e.now) parts

-- each part has the value of its expression
abbrev pub HaveValues : Table → Around → List Part → Type 0
HaveValues table around [] = Unit {0}
HaveValues table around (part ∷ more) = IsValue table (valued around false (expr_of part.e.now)) part.value × HaveValues table around more
