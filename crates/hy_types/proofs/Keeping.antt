-- What is true of every table stays true.
use Rattle.std.proofs.Common.{◌≡◌, ◌==◌, ◌<◌, ◌+◌, ◌-◌, ◌^◌, ◌⊎◌, inl, inr, ℕ, Bool, true, false, cond, List, [], ◌∷◌, ◌++◌, length, Option, Some, None}
use Rattle.std.proofs.Common.{slice_get, Contains, refl, sym, ap, subst, ◌∙◌, arith, length-append}
use Rattle.std.specs.Map.{lookup}
use Rattle.std.specs.Option.{option_map}
use Rattle.std.proofs.lemmas.Option.{slice_get_within, slice_get-get_or}
use Rattle.hy_types.specs.declared.kinds.TyId.{TyId}
use Rattle.hy_types.specs.declared.kinds.Ty.{Ty}
use Rattle.hy_types.specs.declared.kinds.Ty.TheVariants as ty
use Rattle.hy_types.specs.declared.sizes.Size.{Size}
use Rattle.hy_types.specs.declared.sizes.Size.TheVariants.{Pending, Parameter, Large, Words}
use Rattle.hy_types.specs.Types.{Table, AllBelow, mentioned, row_at, declared}
use Rattle.hy_types.specs.Words.{shape}
use Rattle.hy_types.specs.Sizes.{IsRight, AreRight, Waits, IsRightFor, AreSettled}
use Rattle.hy_types.specs.Kept.{IsKept}
use Rattle.hy_types.proofs.Reading.{slice_get-left, slice_get-push, slice_get-last, AllBelow-le, has_ids}
use Rattle.hy_types.proofs.Sums.{Keeps, takes_kept, parameter_kept}
use Rattle.hy_types.proofs.Interning.{rows_push}

right_kept : (old new : Table) → Keeps old new → (id : TyId) (size : Size) → IsRight old id size → IsRight new id size
right_kept old new keeps id Pending h = tt
right_kept old new keeps id Parameter h = parameter_kept old new keeps id h
right_kept old new keeps id Large h = (h.0, takes_kept old new keeps h.1, h.2)
right_kept old new keeps id (Words n) h = (takes_kept old new keeps h.0, h.1)

right_of : (table : Table) (sizes : List Size) (id : TyId) (row : Ty) (size : Size) → IsRightFor table sizes id row size → IsRight table id size
right_of table sizes id row Pending h = tt
right_of table sizes id row Parameter h = h
right_of table sizes id row Large h = h
right_of table sizes id row (Words n) h = h

-- one more type
module _ (types : List Ty) (products : List (ℕ × List TyId)) (row : Ty) where
  abbrev pub old : Table
  old = record { types = types; products = products }

  abbrev pub new : Table
  new = record { types = types ++ row ∷ []; products = products }

  shapes_same : (r : Ty) → shape new r ≡ shape old r
  shapes_same ty.Int = refl
  shapes_same (ty.Sized num) = refl
  shapes_same ty.Bool = refl
  shapes_same (ty.Tuple parts) = refl
  shapes_same (ty.Product declaration) = refl
  shapes_same (ty.Array element) = refl
  shapes_same (ty.Param place) = refl

  keeps_push : Keeps old new
  keeps_push = record { rows = λ id r e. slice_get-left types (row ∷ []) id.at r e; shapes = λ r own parts e. shapes_same r ∙ e }

  waits_push : (sizes more : List Size) (r : Ty) → Waits old sizes r → Waits new (sizes ++ more) r
  waits_push sizes more r (inl w) = inl w
  waits_push sizes more r (inr (own, parts, shaped, (part, c, e))) =
      inr (own, parts, shapes_same r ∙ shaped, (part, c, slice_get-left sizes more part.at Pending e))

  waits_here : (sizes more : List Size) (r : Ty) → Waits new sizes r → Waits new (sizes ++ more) r
  waits_here sizes more r (inl w) = inl w
  waits_here sizes more r (inr (own, parts, shaped, (part, c, e))) = inr (own, parts, shaped, (part, c, slice_get-left sizes more part.at Pending e))

  module _ (sizes : List Size) (kept : IsKept old sizes) (below : AllBelow (length types) (mentioned row)) (fresh : (n : ℕ) → slice_get types n ≡ Some row
      → ⊥) (room : length types < 2 ^ 32 - 1)
      (size : Size) (known : (id : TyId) → AreRight new sizes → row_at new id ≡ Some row → IsRightFor new sizes id row size) where
    right_push : AreRight new sizes
    right_push id s e = right_kept old new keeps_push id s (kept.right id s e)

    known_here : (id : TyId) → id.at ≡ length sizes → IsRightFor new sizes id row size
    known_here id e = known id right_push (subst (λ n. slice_get (types ++ row ∷ []) n ≡ Some row) (sym (e ∙ kept.long)) (slice_get-last types row))

    pub kept_push : IsKept new (sizes ++ size ∷ [])
    kept_push = record {
      rows = rows_push types row kept.rows below fresh;
      few = omega (arith, length-append types (row ∷ []), room);
      long = length-append sizes (size ∷ []) ∙ (let f : length sizes + 1 ≡ length types + 1 = ap (λ n. n + 1) kept.long in f)
          ∙ sym (length-append types (row ∷ []));
      right = λ id s e.
          elim (slice_get-push sizes size id.at s e) [
            | inl g ↦ right_push id s g
            | inr g ↦ subst (IsRight new id) g.1 (right_of new sizes id row size (known_here id g.0))
          ];
      settled = λ id r at e.
          elim (slice_get-push sizes size id.at Pending e) [
            | inl g ↦
                let l : id.at < length sizes = slice_get_within sizes id.at Pending g in
                waits_push sizes (size ∷ []) r
                (kept.settled id r (elim (slice_get-push types row id.at r at) [ inl h ↦ h | inr h ↦ absurd (omega (arith, h.0, l, kept.long)) ]) g)
            | inr g ↦
                let same : row ≡ r =
                elim (slice_get-push types row id.at r at) [
                  | inl h ↦
                      absurd (let l : id.at < length types = slice_get_within types id.at r h in omega (arith, l, g.0, kept.long))
                  | inr h ↦ h.1
                ] in
                subst (λ x. Waits new (sizes ++ size ∷ []) x) same
                (waits_here sizes (size ∷ []) row (subst (λ s. IsRightFor new sizes id row s) g.1 (known_here id g.0)))
          ];
      parts = λ product ids e. AllBelow-le (length types) (length (types ++ row ∷ [])) ids (omega (arith, length-append types (row ∷ [])))
          (kept.parts product ids e);
    }

-- one more product
module _ {X : Type 0} (test : ℕ → Bool) where
  pub lookup-left : (es fs : List (ℕ × X)) (x : X) → lookup test es ≡ Some x → lookup test (es ++ fs) ≡ Some x
  lookup-left [] fs x e = cc
  lookup-left (y ∷ es) fs x e = by (test y.0) refl (lookup-left es fs x)
    where
      by : (b : Bool) → test y.0 ≡ b → (lookup test es ≡ Some x → lookup test (es ++ fs) ≡ Some x) → lookup test ((y ∷ es) ++ fs) ≡ Some x
      by true t rest = ap (λ b. cond b (Some y.1) (lookup test (es ++ fs))) t ∙ sym (ap (λ b. cond b (Some y.1) (lookup test es)) t) ∙ e
      by false t rest = ap (λ b. cond b (Some y.1) (lookup test (es ++ fs))) t ∙ rest (sym (ap (λ b. cond b (Some y.1) (lookup test es)) t) ∙ e)

  pub lookup-push : (es : List (ℕ × X)) (key : ℕ) (v x : X) → lookup test (es ++ (key, v) ∷ []) ≡ Some x → (lookup test es ≡ Some x) ⊎ (v ≡ x)
  lookup-push [] key v x e = by (test key) refl
    where
      by : (b : Bool) → test key ≡ b → (lookup {X = X} test [] ≡ Some x) ⊎ (v ≡ x)
      by true t = inr (let f : Some v ≡ Some x = sym (ap (λ b. cond b (Some v) None) t) ∙ e in cc)
      by false t = inl (sym (ap (λ b. cond b (Some v) None) t) ∙ e)
  lookup-push (y ∷ es) key v x e = by (test y.0) refl (lookup-push es key v x)
    where
      by : (b : Bool) → test y.0 ≡ b → (lookup test (es ++ (key, v) ∷ []) ≡ Some x → (lookup test es ≡ Some x) ⊎ (v ≡ x)) → (lookup test (y ∷ es) ≡ Some x)
          ⊎ (v ≡ x)
      by true t rest = inl (ap (λ b. cond b (Some y.1) (lookup test es)) t ∙ sym (ap (λ b. cond b (Some y.1) (lookup test (es ++ (key, v) ∷ []))) t) ∙ e)
      by false t rest =
          elim (rest (sym (ap (λ b. cond b (Some y.1) (lookup test (es ++ (key, v) ∷ []))) t) ∙ e)) [
            | inl g ↦ inl (ap (λ b. cond b (Some y.1) (lookup test es)) t ∙ g)
            | inr g ↦ inr g
          ]

module _ (types : List Ty) (products : List (ℕ × List TyId)) (product : ℕ) (parts : List TyId) where
  abbrev pub before : Table
  before = record { types = types; products = products }

  abbrev pub after : Table
  after = record { types = types; products = products ++ (product, parts) ∷ [] }

  declared_kept : (declaration : ℕ) (ids : List TyId) → declared before declaration ≡ Some ids → declared after declaration ≡ Some ids
  declared_kept declaration ids e = lookup-left (λ other. declaration == other) products ((product, parts) ∷ []) ids e

  shapes_kept : (r : Ty) (own : ℕ) (ids : List TyId) → shape before r ≡ Some (own, ids) → shape after r ≡ Some (own, ids)
  shapes_kept ty.Int own ids e = e
  shapes_kept (ty.Sized num) own ids e = e
  shapes_kept ty.Bool own ids e = e
  shapes_kept (ty.Tuple ps) own ids e = e
  shapes_kept (ty.Product declaration) own ids e = by (declared before declaration) refl
    where
      by : (o : Option (List TyId)) → declared before declaration ≡ o → shape after (ty.Product declaration) ≡ Some (own, ids)
      by None d = absurd (let bad : ◌≡◌ {A = Option (ℕ × List TyId)} None (Some (own, ids)) = sym (ap (option_map (λ (ps : List TyId). (0, ps))) d) ∙ e in cc)
      by (Some found) d = ap (option_map (λ (ps : List TyId). (0, ps))) (declared_kept declaration found d)
          ∙ sym (ap (option_map (λ (ps : List TyId). (0, ps))) d) ∙ e
  shapes_kept (ty.Array element) own ids e = e
  shapes_kept (ty.Param place) own ids e = e

  keeps_declare : Keeps before after
  keeps_declare = record { rows = λ id r e. e; shapes = shapes_kept }

  module _ (sizes : List Size) (kept : IsKept before sizes) (below : AllBelow (length types) parts) where
    pub right_declare : AreRight after sizes
    right_declare id s e = right_kept before after keeps_declare id s (kept.right id s e)

    pub parts_declare : (declaration : ℕ) (ids : List TyId) → declared after declaration ≡ Some ids → AllBelow (length types) ids
    parts_declare declaration ids e =
        elim (lookup-push (λ other. declaration == other) products product parts ids e) [
          | inl g ↦ kept.parts declaration ids g
          | inr g ↦ subst (AllBelow (length types)) g below
        ]

    pub mentioned_declare : (r : Ty) → Contains types r → AllBelow (length types) (mentioned r)
    mentioned_declare r c = has_ids before kept.rows (record { at = c.0 }) r (slice_get-get_or types c.0 r c.1 ∙ ap Some c.2)

    pub kept_declare : (made : List Size) → length made ≡ length types → AreRight after made → AreSettled after made → IsKept after made
    kept_declare made long right settled = record { rows = kept.rows; few = kept.few; long = long; right = right; settled = settled; parts = parts_declare }
