-- Rows of a table and the types that they give.
use Rattle.std.proofs.Common.{◌≡◌, ◌≢◌, ◌==◌, ◌<◌, ◌≤◌, ◌+◌, ◌⊎◌, inl, inr, ℕ, suc, zero, true, false, List, [], ◌∷◌, ◌++◌, length, reverse, if◌then◌else◌}
use Rattle.std.proofs.Common.{Option, Some, None, slice_get, get_or, take, Contains, refl, sym, ap, subst, ◌∙◌, arith}
use Rattle.std.proofs.lemmas.Bool.Decides.{eqb_tells}
use Rattle.std.proofs.lemmas.Option.{slice_get_within, slice_get_cases, slice_get-get_or}
use Rattle.std.proofs.lemmas.List.{reverse-append, length-reverse}
use Rattle.hy_types.specs.declared.kinds.TyId.{TyId}
use Rattle.hy_types.specs.declared.kinds.Ty.{Ty}
use Rattle.hy_types.specs.declared.kinds.Ty.TheVariants as ty
use Rattle.hy_types.specs.Types.{Table, AllBelow, mentioned, row_at, PlainType, Tuple, Array, More, plain_types, meant, type_in, type_of, type_of_row}
use Rattle.hy_types.specs.Rows.{row_in, AreRows}

-- what a list has at an index it has there in front of others
pub slice_get-left : {X : Type 0} (xs ys : List X) (n : ℕ) (x : X) → slice_get xs n ≡ Some x → slice_get (xs ++ ys) n ≡ Some x
slice_get-left [] ys n x h = cc
slice_get-left (z ∷ xs) ys zero x h = h
slice_get-left (z ∷ xs) ys (suc n) x h = slice_get-left xs ys n x h

pub slice_get-last : {X : Type 0} (xs : List X) (y : X) → slice_get (xs ++ y ∷ []) (length xs) ≡ Some y
slice_get-last [] y = refl
slice_get-last (x ∷ xs) y = slice_get-last xs y

-- an element after a push was there, or is the new one
pub slice_get-push : {X : Type 0} (xs : List X) (y : X) (n : ℕ) (x : X) → slice_get (xs ++ y ∷ []) n ≡ Some x → (slice_get xs n ≡ Some x)
    ⊎ ((n ≡ length xs) × (y ≡ x))
slice_get-push [] y zero x h = inr (refl, cc)
slice_get-push [] y (suc n) x h = cc
slice_get-push (z ∷ xs) y zero x h = inl h
slice_get-push (z ∷ xs) y (suc n) x h = elim (slice_get-push xs y n x h) [ inl g ↦ inl g | inr g ↦ inr (ap (λ m. suc m) g.0, g.1) ]

slice_get-push_if : {X : Type 0} (xs : List X) (y : X) (n : ℕ) → slice_get (xs ++ y ∷ []) n ≡ (if n == length xs then Some y else slice_get xs n)
slice_get-push_if {X} xs y n =
    elim (eqb_tells n (length xs)) [
      | inl t ↦ subst (λ m. slice_get (xs ++ y ∷ []) m ≡ Some y) (sym t.1) (slice_get-last xs y) ∙ sym (ap (λ b. if b then Some y else slice_get xs n) t.0)
      | inr t ↦ elsewhere (slice_get xs n) refl t.1 ∙ sym (ap (λ b. if b then Some y else slice_get xs n) t.0)
    ]
  where
    elsewhere : (o : Option X) → slice_get xs n ≡ o → n ≢ length xs → slice_get (xs ++ y ∷ []) n ≡ slice_get xs n
    elsewhere (Some x) e other = slice_get-left xs (y ∷ []) n x e ∙ sym e
    elsewhere None e other = past (slice_get (xs ++ y ∷ []) n) refl
      where
        past : (o : Option X) → slice_get (xs ++ y ∷ []) n ≡ o → o ≡ slice_get xs n
        past None f = sym e
        past (Some x) f = elim (slice_get-push xs y n x f) [ inl g ↦ cc | inr g ↦ absurd (other g.0) ]

reverse-cons : {X : Type 0} (x : X) (xs : List X) → reverse (x ∷ xs) ≡ reverse xs ++ x ∷ []
reverse-cons x xs = reverse-append (x ∷ []) xs

pub reverse-push : {X : Type 0} (xs : List X) (x : X) → reverse (xs ++ x ∷ []) ≡ x ∷ reverse xs
reverse-push xs x = reverse-append xs (x ∷ [])

reverse-reverse : {X : Type 0} (xs : List X) → reverse (reverse xs) ≡ xs
reverse-reverse [] = refl
reverse-reverse (x ∷ xs) = ap reverse (reverse-cons x xs) ∙ reverse-push (reverse xs) x ∙ ap (λ ys. x ∷ ys) (reverse-reverse xs)

row_in-reverse : (rows : List Ty) (n : ℕ) → slice_get (reverse rows) n ≡ row_in rows n
row_in-reverse [] n = refl
row_in-reverse (row ∷ rows) n =
    ap (λ l. slice_get l n) (reverse-cons row rows) ∙ slice_get-push_if (reverse rows) row n
    ∙ ap (λ m. if n == m then Some row else slice_get (reverse rows) n) (length-reverse rows)
    ∙ ap (λ o. if n == length rows then Some row else o) (row_in-reverse rows n)

-- a row by its number
pub row_in_types : (types : List Ty) (n : ℕ) → slice_get types n ≡ row_in (reverse types) n
row_in_types types n = ap (λ l. slice_get l n) (sym (reverse-reverse types)) ∙ row_in-reverse (reverse types) n

row_in_within : (rows : List Ty) (n : ℕ) (row : Ty) → row_in rows n ≡ Some row → n < length rows
row_in_within rows n row e = subst (λ m. n < m) (length-reverse rows) (slice_get_within (reverse rows) n row (row_in-reverse rows n ∙ e))

row_in_there : (rows : List Ty) (n : ℕ) → n < length rows → (row : Ty) × (row_in rows n ≡ Some row)
row_in_there rows n l = by (row_in rows n) refl
  where
    by : (o : Option Ty) → row_in rows n ≡ o → (row : Ty) × (row_in rows n ≡ Some row)
    by (Some row) e = (row, e)
    by None e =
        elim (slice_get_cases (reverse rows) n).1 [
          | inl c ↦ (c.0, sym (row_in-reverse rows n) ∙ c.2)
          | inr c ↦ absurd (omega (arith, c.0, length-reverse rows))
        ]

pub AllBelow-le : (m n : ℕ) (ids : List TyId) → m ≤ n → AllBelow m ids → AllBelow n ids
AllBelow-le m n [] l h = tt
AllBelow-le m n (id ∷ ids) l h = (omega (arith, h.0), AllBelow-le m n ids l h.1)

-- what a row mentions stands before it
row_mentions : (rows : List Ty) → AreRows rows → (n : ℕ) (row : Ty) → row_in rows n ≡ Some row → AllBelow n (mentioned row)
row_mentions [] good n row e = cc
row_mentions (last ∷ before) good n row e =
    elim (eqb_tells n (length before)) [
      | inl t ↦
          let f : Some last ≡ Some row = sym (ap (λ b. if b then Some last else row_in before n) t.0) ∙ e in
          let same : last ≡ row = cc in
          subst (λ r. AllBelow n (mentioned r)) same (subst (λ m. AllBelow m (mentioned last)) (sym t.1) good.0)
      | inr t ↦ row_mentions before good.2 n row (sym (ap (λ b. if b then Some last else row_in before n) t.0) ∙ e)
    ]

pub same_plain : (f g : TyId → PlainType) (n : ℕ) (ids : List TyId) → ((id : TyId) → id.at < n → f id ≡ g id) → AllBelow n ids
    → plain_types f ids ≡ plain_types g ids
same_plain f g n [] same below = refl
same_plain f g n (id ∷ ids) same below = λ i. More (same id below.0 i) (same_plain f g n ids same below.1 i)

pub same_meant : (f g : TyId → PlainType) (n : ℕ) (row : Ty) → ((id : TyId) → id.at < n → f id ≡ g id) → AllBelow n (mentioned row) → meant f row ≡ meant g row
same_meant f g n ty.Int same below = refl
same_meant f g n (ty.Sized num) same below = refl
same_meant f g n ty.Bool same below = refl
same_meant f g n (ty.Tuple parts) same below = ap Tuple (same_plain f g n parts same below)
same_meant f g n (ty.Product declaration) same below = refl
same_meant f g n (ty.Array element) same below = ap Array (same element below.0)
same_meant f g n (ty.Param place) same below = refl

pub type_in-before : (row : Ty) (before : List Ty) (id : TyId) → id.at < length before → type_in (row ∷ before) id ≡ type_in before id
type_in-before row before id l =
    elim (eqb_tells id.at (length before)) [
      | inl t ↦ absurd (omega (arith, t.1))
      | inr t ↦ ap (λ b. if b then meant (type_in before) row else type_in before id) t.0
    ]

type_in-last : (row : Ty) (before : List Ty) (id : TyId) → id.at ≡ length before → type_in (row ∷ before) id ≡ meant (type_in before) row
type_in-last row before id e =
    elim (eqb_tells id.at (length before)) [
      | inl t ↦ ap (λ b. if b then meant (type_in before) row else type_in before id) t.0
      | inr t ↦ absurd (t.1 e)
    ]

-- the type of a number is what its row means
type_in-row : (rows : List Ty) → AreRows rows → (id : TyId) (row : Ty) → row_in rows id.at ≡ Some row → type_in rows id ≡ meant (type_in rows) row
type_in-row [] good id row e = cc
type_in-row (last ∷ before) good id row e =
    elim (eqb_tells id.at (length before)) [
      | inl t ↦
          let f : Some last ≡ Some row = sym (ap (λ b. if b then Some last else row_in before id.at) t.0) ∙ e in
          let same : last ≡ row = cc in
          type_in-last last before id t.1
          ∙ sym (same_meant (type_in (last ∷ before)) (type_in before) (length before) last (type_in-before last before) good.0)
          ∙ ap (meant (type_in (last ∷ before))) same
      | inr t ↦
          let f : row_in before id.at ≡ Some row = sym (ap (λ b. if b then Some last else row_in before id.at) t.0) ∙ e in
          let l : id.at < length before = row_in_within before id.at row f in
          type_in-before last before id l ∙ type_in-row before good.2 id row f
          ∙ sym (same_meant (type_in (last ∷ before)) (type_in before) (length before) row (type_in-before last before)
          (AllBelow-le id.at (length before) (mentioned row) (omega arith) (row_mentions before good.2 id.at row f)))
    ]

one_plain : (f : TyId → PlainType) (n : ℕ) → ((a b : TyId) → a.at < n → b.at < n → f a ≡ f b → a ≡ b) → (xs ys : List TyId) → AllBelow n xs → AllBelow n ys
    → plain_types f xs ≡ plain_types f ys → xs ≡ ys
one_plain f n one [] [] p q e = refl
one_plain f n one [] (y ∷ ys) p q e = cc
one_plain f n one (x ∷ xs) [] p q e = cc
one_plain f n one (x ∷ xs) (y ∷ ys) p q e =
    let head : f x ≡ f y = cc in
    let tail : plain_types f xs ≡ plain_types f ys = cc in
    λ i. one x y p.0 q.0 head i ∷ one_plain f n one xs ys p.1 q.1 tail i

one_meant : (f : TyId → PlainType) (n : ℕ) → ((a b : TyId) → a.at < n → b.at < n → f a ≡ f b → a ≡ b) → (row other : Ty) → AllBelow n (mentioned row)
    → AllBelow n (mentioned other) → meant f row ≡ meant f other → row ≡ other
one_meant f n one ty.Int ty.Int p q e = refl
one_meant f n one (ty.Sized a) (ty.Sized b) p q e = let g : a ≡ b = cc in ap ty.Sized g
one_meant f n one ty.Bool ty.Bool p q e = refl
one_meant f n one (ty.Tuple xs) (ty.Tuple ys) p q e = let g : plain_types f xs ≡ plain_types f ys = cc in ap ty.Tuple (one_plain f n one xs ys p q g)
one_meant f n one (ty.Product a) (ty.Product b) p q e = let g : a ≡ b = cc in ap ty.Product g
one_meant f n one (ty.Array a) (ty.Array b) p q e = let g : f a ≡ f b = cc in ap ty.Array (one a b p.0 q.0 g)
one_meant f n one (ty.Param a) (ty.Param b) p q e = let g : a ≡ b = cc in ap ty.Param g
one_meant f n one row other p q e = cc

same_at : (a b : TyId) → a.at ≡ b.at → a ≡ b
same_at a b e = λ i. record { at = e i }

-- two numbers of one type are one, with one more row
module _ (last : Ty) (before : List Ty) (good : AreRows (last ∷ before)) (one : (a b : TyId) → a.at < length before → b.at < length before
    → type_in before a ≡ type_in before b → a ≡ b) where
  fresh : (x y : TyId) → x.at ≡ length before → y.at < length before → type_in (last ∷ before) x ≡ type_in (last ∷ before) y → ⊥
  fresh x y p q h =
      let r = row_in_there before y.at q in
      let f : meant (type_in before) last ≡ meant (type_in before) r.0 = sym (type_in-last last before x p) ∙ h ∙ type_in-before last before y q
      ∙ type_in-row before good.2 y r.0 r.1 in
      let same : last ≡ r.0 =
      one_meant (type_in before) (length before) one last r.0 good.0
      (AllBelow-le y.at (length before) (mentioned r.0) (omega arith) (row_mentions before good.2 y.at r.0 r.1)) f in
      good.1 y.at (r.1 ∙ ap Some (sym same))

  one_more : (a b : TyId) → a.at < length before + 1 → b.at < length before + 1 → type_in (last ∷ before) a ≡ type_in (last ∷ before) b → a ≡ b
  one_more a b l m e = by (eqb_tells a.at (length before)) (eqb_tells b.at (length before))
    where
      by : ((a.at == length before) ≡ true) × (a.at ≡ length before) ⊎ ((a.at == length before) ≡ false) × (a.at ≢ length before)
          → ((b.at == length before) ≡ true) × (b.at ≡ length before) ⊎ ((b.at == length before) ≡ false) × (b.at ≢ length before) → a ≡ b
      by (inl p) (inl q) = same_at a b (p.1 ∙ sym q.1)
      by (inl p) (inr q) = absurd (fresh a b p.1 (omega (arith, q.1)) e)
      by (inr p) (inl q) = absurd (fresh b a q.1 (omega (arith, p.1)) (sym e))
      by (inr p) (inr q) = one a b (omega (arith, p.1)) (omega (arith, q.1)) (sym (type_in-before last before a (omega (arith, p.1))) ∙ e
          ∙ type_in-before last before b (omega (arith, q.1)))

one_id : (rows : List Ty) → AreRows rows → (a b : TyId) → a.at < length rows → b.at < length rows → type_in rows a ≡ type_in rows b → a ≡ b
one_id [] good a b l m e = absurd (omega arith)
one_id (last ∷ before) good a b l m e = one_more last before good (one_id before good.2) a b (omega arith) (omega arith) e

-- what is read at an index
pub read_at : {X : Type 0} (xs read : List X) (n : ℕ) (x : X) → read ≡ xs → n < length xs → x ≡ get_or read n x → slice_get xs n ≡ Some x
read_at xs read n x same l e = slice_get-get_or xs n x l ∙ ap Some (sym (e ∙ ap (λ r. get_or r n x) same))

module _ (table : Table) (good : AreRows (reverse table.types)) where
  pub mentions : (id : TyId) (row : Ty) → row_at table id ≡ Some row → AllBelow id.at (mentioned row)
  mentions id row e = row_mentions (reverse table.types) good id.at row (sym (row_in_types table.types id.at) ∙ e)

  pub has_ids : (id : TyId) (row : Ty) → row_at table id ≡ Some row → AllBelow (length table.types) (mentioned row)
  has_ids id row e = AllBelow-le id.at (length table.types) (mentioned row) (let l : id.at < length table.types =
      slice_get_within table.types id.at row e in omega arith) (mentions id row e)

  pub type_at : (id : TyId) (row : Ty) → row_at table id ≡ Some row → type_of table id ≡ type_of_row table row
  type_at id row e = type_in-row (reverse table.types) good id row (sym (row_in_types table.types id.at) ∙ e)

  -- two numbers of one type are one
  pub one_number : (a b : TyId) → a.at < length table.types → b.at < length table.types → type_of table a ≡ type_of table b → a ≡ b
  one_number a b l m e = one_id (reverse table.types) good a b (omega (arith, length-reverse table.types)) (omega (arith, length-reverse table.types)) e

pub below_at : (count : ℕ) (ids : List TyId) (k : ℕ) (d : TyId) → AllBelow count ids → k < length ids → (get_or ids k d).at < count
below_at count [] k d h l = absurd (omega arith)
below_at count (id ∷ ids) zero d h l = h.0
below_at count (id ∷ ids) (suc k) d h l = below_at count ids k d h.1 (omega arith)

pub below_take : (count k : ℕ) (ids : List TyId) → AllBelow count ids → AllBelow count (take k ids)
below_take count zero ids h = tt
below_take count (suc k) [] h = tt
below_take count (suc k) (id ∷ ids) h = (h.0, below_take count k ids h.1)

pub below_member : (count : ℕ) (ids : List TyId) (id : TyId) → AllBelow count ids → Contains ids id → id.at < count
below_member count ids id h c = subst (λ (x : TyId). x.at < count) c.2 (below_at count ids c.0 id h c.1)
