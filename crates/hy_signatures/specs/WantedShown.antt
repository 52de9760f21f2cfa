-- What the code's words for wanted types show.
use Rattle.std.specs.Prelude.{Option}
use Rattle.std.specs.Option.{option_map}
use Rattle.hy_types.specs.Types.{Table, HasId, PlainType, type_of}
use Rattle.hy_types.specs.declared.kinds.TyId.{TyId}
use Rattle.hy_signatures.specs.Signatures as S
use Rattle.hy_signatures.specs.declared.wanted.Wanted.{Wanted}
use Rattle.hy_signatures.specs.declared.wanted.Wanted.TheVariants as wanted

abbrev pub wanted_shown : Table → Wanted → S.Wanted
wanted_shown table (wanted.Exactly id) = S.Exactly (type_of table id)
wanted_shown table wanted.Integer = S.AnInteger
wanted_shown table wanted.Signed = S.ASigned
wanted_shown table wanted.IntegerOrTruth = S.AnIntegerOrBool

-- the wanted type is one of the table's
abbrev pub IsWanted : Table → Wanted → Type 0
IsWanted table (wanted.Exactly id) = HasId table id
IsWanted table wanted.Integer = Unit {0}
IsWanted table wanted.Signed = Unit {0}
IsWanted table wanted.IntegerOrTruth = Unit {0}

-- the type of an expression, where it has one
abbrev pub type_shown : Table → Option TyId → Option PlainType
type_shown table id = option_map (type_of table) id
