-- The loops that test what calls ask for.
use Rattle.std.proofs.Common.{◌≡◌, ◌<◌, ◌≤◌, ◌+◌, ℕ, suc, zero, List, [], ◌∷◌, ◌++◌, length, take, get_or, Some, IsSome, slice_get, refl, sym, ap, subst}
use Rattle.std.proofs.Common.{◌∙◌, arith}
use Rattle.std.proofs.lemmas.List.{take_more}
use Rattle.std.proofs.lemmas.Bool.Decides.{leb_tells}
use Rattle.std.proofs.Common.{inl, inr}
use Rattle.hy_types.specs.declared.kinds.TyId.{TyId}
use Rattle.hy_types.specs.declared.kinds.Ty.{Ty}
use Rattle.hy_types.specs.declared.kinds.Ty.TheVariants as ty
use Rattle.hy_types.specs.Types.{Table, AllBelow, row_at, declared, type_of, plain_types, PlainType}
use Rattle.hy_types.specs.Matching.{ParametersBelow, AllParametersBelow}
use Rattle.hy_types.proofs.Replaced.{below_push}

take-whole : {X : Type 0} (xs : List X) (n : ℕ) → length xs ≤ n → take n xs ≡ xs
take-whole [] zero l = refl
take-whole [] (suc n) l = refl
take-whole (x ∷ xs) zero l = absurd (omega (arith, l))
take-whole (x ∷ xs) (suc n) l = ap (λ ys. x ∷ ys) (take-whole xs n (omega (arith, l)))

pub below_more : (n : ℕ) (ids : List TyId) (i : ℕ) (d : TyId) → i < length ids → AllBelow n (take i ids) → (get_or ids i d).at < n
    → AllBelow n (take (i + 1) ids)
below_more n ids i d l h m = subst (AllBelow n) (sym (take_more ids i d l)) (below_push n (take i ids) (get_or ids i d) h m)

pub below_whole : (n : ℕ) (ids : List TyId) (i : ℕ) → length ids ≤ i → AllBelow n (take i ids) → AllBelow n ids
below_whole n ids i l h = subst (AllBelow n) (take-whole ids i l) h

parameters_push : (count : ℕ) (f : TyId → PlainType) (ids : List TyId) (id : TyId) → AllParametersBelow count (plain_types f ids)
    → ParametersBelow count (f id) → AllParametersBelow count (plain_types f (ids ++ id ∷ []))
parameters_push count f [] id h m = (m, tt)
parameters_push count f (x ∷ ids) id h m = (h.0, parameters_push count f ids id h.1 m)

module _ (count : ℕ) (table : Table) (ids : List TyId) (i : ℕ) where
  pub parameters_more : (d : TyId) → i < length ids → AllParametersBelow count (plain_types (type_of table) (take i ids))
      → ParametersBelow count (type_of table (get_or ids i d)) → AllParametersBelow count (plain_types (type_of table) (take (i + 1) ids))
  parameters_more d l h m =
      subst (λ xs. AllParametersBelow count (plain_types (type_of table) xs)) (sym (take_more ids i d l))
      (parameters_push count (type_of table) (take i ids) (get_or ids i d) h m)

  pub parameters_whole : length ids ≤ i → AllParametersBelow count (plain_types (type_of table) (take i ids))
      → AllParametersBelow count (plain_types (type_of table) ids)
  parameters_whole l h = subst (λ xs. AllParametersBelow count (plain_types (type_of table) xs)) (take-whole ids i l) h

-- each product among the first rows was declared
abbrev pub DeclaredBelow : Table → ℕ → Type 0
DeclaredBelow table n = (declaration : ℕ) (id : TyId) → id.at < n → row_at table id ≡ Some (ty.Product declaration) → IsSome (declared table declaration)

pub declared_more : (table : Table) (n : ℕ) (row : Ty) → slice_get table.types n ≡ Some row → DeclaredBelow table n
    → ((declaration : ℕ) → row ≡ ty.Product declaration → IsSome (declared table declaration)) → DeclaredBelow table (n + 1)
declared_more table n row at before here declaration id l e =
    elim (leb_tells (suc id.at) n) [
      | inl t ↦ before declaration id (omega (arith, t.1)) e
      | inr t ↦
          let same : id.at ≡ n = omega (arith, t.1) in
          let f : Some row ≡ Some (ty.Product declaration) = sym at ∙ ap (slice_get table.types) (sym same) ∙ e in
          let is : row ≡ ty.Product declaration = cc in
          here declaration is
    ]
