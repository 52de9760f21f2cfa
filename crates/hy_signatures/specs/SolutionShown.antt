-- What the code's types for type parameters show.
use Rattle.std.specs.Prelude.{◌≡◌, ◌==◌, ℕ, Bool as Truth, Option, Some, None, cond}
use Rattle.std.specs.Map.{lookup}
use Rattle.std.specs.Option.{option_map}
use Rattle.hy_types.specs.Types.{Table, HasId, PlainType, PlainTypes, type_of}
use Rattle.hy_types.specs.declared.kinds.TyId.{TyId}
use Rattle.hy_signatures.specs.PlainTypes.{Found, matched, matched_all}
use Rattle.hy_signatures.specs.Signatures.{Wanted, fitted}
use Rattle.hy_signatures.specs.declared.solutions.Solution.{Solution}

-- the number that was found for a type parameter
abbrev pub number_found : Solution → ℕ → Option TyId
number_found solution place = lookup (λ other. place == other) solution.places.entries

-- the types that were found
abbrev pub found_shown : Table → Solution → Found
found_shown table solution = λ place. option_map (type_of table) (number_found solution place)

-- all numbers that were found are the table's
abbrev pub AreFound : Table → Solution → Type 0
AreFound table solution = (place : ℕ) (id : TyId) → number_found solution place ≡ Some id → HasId table id

-- what matching finds, where it says so, is what the definition finds; else the definition finds nothing
abbrev pub Matches : Table → PlainType → PlainType → Solution → Truth → Solution → Type 0
Matches table wanted given old answer new = matched wanted given (found_shown table old) ≡ cond answer (Some (found_shown table new)) None

abbrev pub MatchesAll : Table → PlainTypes → PlainTypes → Solution → Truth → Solution → Type 0
MatchesAll table wanted given old answer new = matched_all wanted given (found_shown table old) ≡ cond answer (Some (found_shown table new)) None

-- the same of a wanted type of any kind
abbrev pub Fits : Table → Wanted → PlainType → Solution → Truth → Solution → Type 0
Fits table wanted given old answer new = fitted wanted given (found_shown table old) ≡ cond answer (Some (found_shown table new)) None
