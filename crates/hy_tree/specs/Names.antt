-- Names, what they mean, and the full names of what is called.
use Rattle.std.specs.Prelude.{ℕ, List, [], ◌∷◌, ◌++◌, Option, Some, None, Bool, true, false, cond, codes}
use Rattle.std.specs.Str.{bytes_eq}
use Rattle.hy_tree.specs.Parts.{label_of}
use Rattle.hy_tree.specs.Tree as T
use Rattle.hy_tree.specs.declared.meant.Meant.{Meant}
use Rattle.hy_tree.specs.declared.name.Name.{Name}

-- what names stand for in some declarations
abbrev pub Names : Type 0
Names = List ℕ → Option Meant

abbrev pub no_names : Names
no_names = λ name. None

-- one name more, which hides an earlier one
abbrev pub with_name : List ℕ → Meant → Names → Names
with_name declared meant names = λ name. cond (bytes_eq name declared) (Some meant) (names name)

-- the first of two that is there
abbrev pub or : {A : Type 0} → Option A → Option A → Option A
or (Some a) other = Some a
or None other = other

abbrev pub is_there : {A : Type 0} → Option A → Bool
is_there (Some a) = true
is_there None = false

-- the nearest block that has the name
abbrev pub in_blocks : List Names → Names
in_blocks [] name = None
in_blocks (block ∷ around) name = or (block name) (in_blocks around name)

-- FULL NAMES
-- A function or subscript is named by its base name and its labels, as in `moved(by:_:)`, where `_` stands for no label.

abbrev pub label_text : Option (List ℕ) → List ℕ
label_text (Some label) = label
label_text None = codes "_"

abbrev pub labels_text : List (Option (List ℕ)) → List ℕ
labels_text [] = codes ")"
labels_text (label ∷ more) = label_text label ++ (codes ":" ++ labels_text more)

abbrev pub full_name : List ℕ → List (Option (List ℕ)) → List ℕ
full_name base labels = base ++ (codes "(" ++ labels_text labels)

abbrev pub labels_of_params : List T.Param → List (Option (List ℕ))
labels_of_params [] = []
labels_of_params (param ∷ more) = label_of param ∷ labels_of_params more

abbrev pub labels_of_args : T.Args → List (Option (List ℕ))
labels_of_args T.NoArg = []
labels_of_args (T.ThenArg label value more) = label ∷ labels_of_args more

-- the base name; none is written as the empty text
abbrev pub base_text : Option Name → List ℕ
base_text (Some name) = name.text
base_text None = []

abbrev pub own_name : T.Callable → List ℕ
own_name c = full_name (base_text c.name) (labels_of_params c.params)
