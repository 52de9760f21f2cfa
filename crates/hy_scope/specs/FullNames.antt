-- What the texts of names have in common.
use Rattle.std.specs.Prelude.{◌≡◌, ◌≢◌, ℕ, List, Option, Some, None, codes}
use Rattle.std.specs.List.{AllByRecursion}

-- no character of a name is `(`, `)` or `:`
abbrev pub IsNameCharacter : ℕ → Type 0
IsNameCharacter c = (c ≢ 40) × (c ≢ 41) × (c ≢ 58)

abbrev pub IsNameText : List ℕ → Type 0
IsNameText text = AllByRecursion IsNameCharacter text

-- a label is a name, which is never `_`
abbrev pub IsLabel : Option (List ℕ) → Type 0
IsLabel None = Unit {0}
IsLabel (Some text) = IsNameText text × (text ≢ codes "_")

abbrev pub AreLabels : List (Option (List ℕ)) → Type 0
AreLabels labels = AllByRecursion IsLabel labels
