-- The words that the values of a type take.
use Rattle.std.specs.Prelude.{◌≡◌, ◌+◌, ◌<◌, ◌≤◌, ◌⊎◌, ℕ, suc, List, [], ◌∷◌, Option, Some, None, IsSome, Contains, unwrap_or, option_and_then}
use Rattle.std.specs.Option.{option_map}
use Rattle.hy_types.specs.declared.kinds.TyId.{TyId}
use Rattle.hy_types.specs.declared.kinds.Ty.{Ty}
use Rattle.hy_types.specs.declared.kinds.Ty.TheVariants as ty
use Rattle.hy_types.specs.Types.{Table, row_at, declared}

-- the words of a type's own and its parts outside arrays. A parameter has none, and a product has them once it is declared.
abbrev pub shape : Table → Ty → Option (ℕ × List TyId)
shape table ty.Int = Some (1, [])
shape table (ty.Sized num) = Some (1, [])
shape table ty.Bool = Some (1, [])
shape table (ty.Tuple parts) = Some (0, parts)
shape table (ty.Product declaration) = option_map (λ parts. (0, parts)) (declared table declaration)
shape table (ty.Array element) = Some (2, [])
shape table (ty.Param place) = None

-- a number's type has these words of its own and these parts
abbrev pub HasShape : Table → TyId → ℕ → List TyId → Type 0
HasShape table id own parts = (row : Ty) × (row_at table id ≡ Some row) × (shape table row ≡ Some (own, parts))

-- the parts of a number's type outside arrays, or none
abbrev pub parts_at : Table → TyId → List TyId
parts_at table id = unwrap_or (option_map (λ s. s.1) (option_and_then (shape table) (row_at table id))) []

module _ (table : Table) where
  -- a type takes its own words and those of its parts
  mutual
    pub data Takes : TyId → ℕ → Type 0 where
      of : {id : TyId} {own words : ℕ} {parts : List TyId} → HasShape table id own parts → TakeTogether parts words → Takes id (own + words)

    pub data TakeTogether : List TyId → ℕ → Type 0 where
      none : TakeTogether [] 0
      more : {id : TyId} {ids : List TyId} {first rest : ℕ} → Takes id first → TakeTogether ids rest → TakeTogether (id ∷ ids) (first + rest)

  -- a type lies in another at this depth of parts, outside arrays
  pub data LiesIn : ℕ → TyId → TyId → Type 0 where
    itself : {id : TyId} → LiesIn 0 id id
    in_part : {depth own : ℕ} {inner part outer : TyId} {parts : List TyId} → HasShape table outer own parts → Contains parts part → LiesIn depth inner part
        → LiesIn (suc depth) inner outer

  -- a type holds a parameter outside arrays
  abbrev pub HoldsParameter : TyId → Type 0
  HoldsParameter id = (depth place : ℕ) × (inner : TyId) × LiesIn depth inner id × (row_at table inner ≡ Some (ty.Param place))

  -- a type is endless: parts lie in parts at every depth
  abbrev pub IsEndless : TyId → Type 0
  IsEndless id = (depth : ℕ) → (inner : TyId) × LiesIn depth inner id

  -- a type takes more words than a type may
  abbrev pub IsTooLarge : TyId → Type 0
  IsTooLarge id = (words : ℕ) × Takes id words × (4096 < words)

  -- each product that a type holds outside arrays was declared
  abbrev pub AreDeclared : TyId → Type 0
  AreDeclared id = (depth declaration : ℕ) (inner : TyId) → LiesIn depth inner id → row_at table inner ≡ Some (ty.Product declaration)
      → IsSome (declared table declaration)

  -- the words of a type, where it has them: at most 4,096
  abbrev pub HasWords : TyId → ℕ → Type 0
  HasWords id words = Takes id words × (words ≤ 4096)

  -- the causes for which it has none
  abbrev pub HasNoWords : TyId → Type 0
  HasNoWords id = HoldsParameter id ⊎ (IsEndless id ⊎ IsTooLarge id)

-- each product among the types was declared
abbrev pub EachDeclared : Table → Type 0
EachDeclared table = (declaration : ℕ) (id : TyId) → row_at table id ≡ Some (ty.Product declaration) → IsSome (declared table declaration)
