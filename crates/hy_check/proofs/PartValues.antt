-- Values of several parts.
use Rattle.std.proofs.Common.{◌≡◌, ◌<◌, ◌≤◌, ℕ, zero, suc, ◌+◌, List, [], ◌∷◌, ◌++◌, length, get_or, drop, map, flat_map, Option, Some, None, refl}
use Rattle.std.proofs.Common.{sym, ap, subst, ◌∙◌}
use Rattle.std.proofs.Common.{arith, drop-cons, true, false, ◌&&◌, append_assoc}
use Rattle.std.proofs.lemmas.List.{drop_all}
use Rattle.hy_tree.specs.Denotes.{expr_of}
use Rattle.hy_tree.specs.Tree as T
use Rattle.std.specs.Option.{option_map}
use Rattle.std.proofs.lemmas.List.{map_push, append-nil}
use Rattle.hy_types.specs.Types.{Table, Extends, PlainType, HasIds, type_of}
use Rattle.hy_types.specs.declared.kinds.TyId.{TyId}
use Rattle.hy_types.proofs.Replaced.{below_push}
use Rattle.hy_types.proofs.Replaced.{id_stays, type_kept}
use Rattle.hy_check.specs.Postfix as P
use Rattle.hy_signatures.specs.Operators.{fits}
use Rattle.hy_signatures.specs.Signatures.{Wanted}
use Rattle.hy_signatures.specs.WantedShown.{type_shown}
use Rattle.hy_check.specs.Known.{Known, Learns}
use Rattle.hy_check.specs.Refusals.{unlike, all_unlike, unfit_elements}
use Rattle.hy_check.specs.Typing.{Around, valued, typed, type_in, all_there, all_fit}
use Rattle.hy_check.specs.ValuesShown.{perhaps_shown, IsKnown, IsValue, HaveValues, exprs_in}
use Rattle.hy_check.specs.declared.value.Part.{Part}
use Rattle.hy_check.specs.declared.value.Value.{Value}

-- IN A TABLE OF TYPES THAT GROWS

module _ (old new : Table) (stays : Extends old new) where
  pub known_kept : (value : Option Value) → IsKnown old value → IsKnown new value
  known_kept None known = known
  known_kept (Some v) known = id_stays old new stays v.id known

  shown_kept : (value : Option Value) → IsKnown old value → perhaps_shown new value ≡ perhaps_shown old value
  shown_kept None known = refl
  shown_kept (Some v) known = λ i. Some (record { type = type_kept old new stays v.id known i; is_place = v.is_place })

  pub value_kept : (plain : Option P.Value) (value : Option Value) → IsValue old plain value → IsValue new plain value
  value_kept plain value is = record { known = known_kept value is.known; is = shown_kept value is.known ∙ is.is }

  pub values_kept : (around : Around) (parts : List Part) → HaveValues old around parts → HaveValues new around parts
  values_kept around [] h = tt
  values_kept around (part ∷ more) h = (value_kept (valued around false (expr_of part.e.now)) part.value h.0, values_kept around more h.1)

-- ONE BY ONE

pub value_at : (table : Table) (around : Around) (parts : List Part) (k : ℕ) (d : Part) → HaveValues table around parts → k < length parts
    → IsValue table (valued around false (expr_of (get_or parts k d).e.now)) (get_or parts k d).value
value_at table around [] k d h lt = absurd (omega (arith, lt))
value_at table around (part ∷ more) zero d h lt = h.0
value_at table around (part ∷ more) (suc k) d h lt = value_at table around more k d h.1 (omega (arith, lt))

pub part_value : (table : Table) (around : Around) (parts : List Part) (k : ℕ) (part : Part) → part ≡ get_or parts k part → k < length parts
    → HaveValues table around parts → IsValue table (valued around false (expr_of part.e.now)) part.value
part_value table around parts k part item lt h =
    subst (λ (p : Part). IsValue table (valued around false (expr_of p.e.now)) p.value) (sym item) (value_at table around parts k part h lt)

pub next_part : (parts : List Part) (k : ℕ) (part : Part) → part ≡ get_or parts k part → k < length parts → drop k parts ≡ part ∷ drop (k + 1) parts
next_part parts k part item lt =
    let next : suc k ≡ k + 1 = omega arith in
    drop-cons parts k part lt ∙ (λ i. sym item i ∷ drop (next i) parts)

pub flat_next : {Y : Type 0} (f : T.Expr → List Y) (parts : List Part) (k : ℕ) (part : Part) → part ≡ get_or parts k part → k < length parts
    → flat_map f (exprs_in (drop k parts)) ≡ f (expr_of part.e.now) ++ flat_map f (exprs_in (drop (k + 1) parts))
flat_next f parts k part item lt = ap (λ ps. flat_map f (exprs_in ps)) (next_part parts k part item lt)

pub flat_end : {Y : Type 0} (f : T.Expr → List Y) (parts : List Part) (k : ℕ) → length parts ≤ k → flat_map f (exprs_in (drop k parts)) ≡ []
flat_end f parts k end = ap (λ ps. flat_map f (exprs_in ps)) (drop_all k parts end)

abbrev pub nothing_of : {X Y : Type 0} → X → List Y
nothing_of x = []

pub flat_none : {X Y : Type 0} (xs : List X) → flat_map (nothing_of {X = X} {Y = Y}) xs ≡ []
flat_none [] = refl
flat_none (x ∷ xs) = flat_none xs

-- EXPRESSIONS THAT ARE WANTED TO HAVE THE TYPE OF ANOTHER

pub all_unlike_each : (around : Around) (type : Option PlainType) (es : List T.Expr) → all_unlike around type (T.exprs es) ≡ flat_map (unlike around type) es
all_unlike_each around type [] = refl
all_unlike_each around type (e ∷ more) = ap (λ xs. unlike around type e ++ xs) (all_unlike_each around type more)

pub later_unlike : (old new : Known) (table : Table) (around : Around) (parts : List Part) (first : Part) (more : List Part) (like : Option TyId)
    → parts ≡ first ∷ more → IsValue table (valued around false (expr_of first.e.now)) first.value
    → type_shown table like ≡ type_in (perhaps_shown table first.value)
    → Learns old new (flat_map (unlike around (type_shown table like)) (exprs_in more)) []
    → Learns old new (unfit_elements around (T.exprs (exprs_in parts))) []
later_unlike old new table around parts first more like e is same h =
    subst (λ xs. Learns old new xs [])
    ((λ i. flat_map (unlike around ((same ∙ ap type_in is.is) i)) (exprs_in more))
    ∙ sym (all_unlike_each around (typed around (expr_of first.e.now)) (exprs_in more))
    ∙ ap (λ ps. unfit_elements around (T.exprs (exprs_in ps))) (sym e)) h

-- TYPES OF ALL PARTS

pub typed_some : (table : Table) (around : Around) (e : T.Expr) (value : Option Value) (v : Value) → value ≡ Some v
    → IsValue table (valued around false e) value → typed around e ≡ Some (type_of table v.id)
typed_some table around e value v same is = ap type_in (sym is.is ∙ ap (perhaps_shown table) same)

pub typed_none : (table : Table) (around : Around) (e : T.Expr) (value : Option Value) → value ≡ None
    → IsValue table (valued around false e) value → typed around e ≡ None
typed_none table around e value same is = ap type_in (sym is.is ∙ ap (perhaps_shown table) same)

pub known_some : (table : Table) (plain : Option P.Value) (value : Option Value) (v : Value) → value ≡ Some v → IsValue table plain value
    → IsKnown table (Some v)
known_some table plain value v same is = subst (IsKnown table) same is.known

abbrev types_in : Around → List Part → List (Option PlainType)
types_in around parts = map (typed around) (exprs_in parts)

before_id : {A : Type 0} (o : Option (List A)) → o ≡ option_map (λ ts. [] ++ ts) o
before_id None = refl
before_id (Some ts) = refl

before_both : {A : Type 0} (xs : List A) (x : A) (o : Option (List A)) → option_map (λ ts. xs ++ ts) (option_map (λ ts. x ∷ ts) o)
    ≡ option_map (λ ts. (xs ++ x ∷ []) ++ ts) o
before_both xs x None = refl
before_both xs x (Some ts) = ap Some (sym (append_assoc xs (x ∷ []) ts))

module _ (table : Table) (around : Around) (parts : List Part) where
  -- the first so many have these types
  pub record AreFirst (k : ℕ) (ids : List TyId) : Type 0 where
    pub are : all_there (types_in around parts) ≡ option_map (λ ts. map (type_of table) ids ++ ts) (all_there (types_in around (drop k parts)))
    pub known : HasIds table ids

  pub first_none : AreFirst 0 []
  first_none = record { are = before_id (all_there (types_in around parts)); known = tt }

  module _ (h : HaveValues table around parts) (k : ℕ) (part : Part) (item : part ≡ get_or parts k part) (lt : k < length parts) where
    types_next : types_in around (drop k parts) ≡ typed around (expr_of part.e.now) ∷ types_in around (drop (k + 1) parts)
    types_next = ap (types_in around) (next_part parts k part item lt)

    pub first_more : (ids : List TyId) (v : Value) → part.value ≡ Some v → AreFirst k ids → AreFirst (k + 1) (ids ++ v.id ∷ [])
    first_more ids v same first =
        let is = part_value table around parts k part item lt h in
        let one = typed_some table around (expr_of part.e.now) part.value v same is in
        record {
          are = first.are
              ∙ ap (λ ts. option_map (λ ts. map (type_of table) ids ++ ts) (all_there ts)) (types_next ∙ ap
              (λ t. t ∷ types_in around (drop (k + 1) parts)) one)
              ∙ before_both (map (type_of table) ids) (type_of table v.id) (all_there (types_in around (drop (k + 1) parts)))
              ∙ ap (λ front. option_map (λ ts. front ++ ts) (all_there (types_in around (drop (k + 1) parts)))) (sym (map_push (type_of table) ids v.id));
          known = below_push (length table.types) ids v.id first.known
              (known_some table (valued around false (expr_of part.e.now)) part.value v same is);
        }

    pub first_stops : (ids : List TyId) → part.value ≡ None → AreFirst k ids → None ≡ all_there (types_in around parts)
    first_stops ids same first =
        let one = typed_none table around (expr_of part.e.now) part.value same (part_value table around parts k part item lt h) in
        sym (first.are ∙ ap (λ ts. option_map (λ ts. map (type_of table) ids ++ ts) (all_there ts))
        (types_next ∙ ap (λ t. t ∷ types_in around (drop (k + 1) parts)) one))

    -- WHETHER ALL PARTS FIT

    pub fit_next : (wanted : Wanted) (v : Value) → part.value ≡ Some v → all_fit wanted (types_in around (drop k parts))
        ≡ (fits wanted (type_of table v.id) && all_fit wanted (types_in around (drop (k + 1) parts)))
    fit_next wanted v same =
        let one = typed_some table around (expr_of part.e.now) part.value v same (part_value table around parts k part item lt h) in
        ap (all_fit wanted) (types_next ∙ ap (λ t. t ∷ types_in around (drop (k + 1) parts)) one)

    pub fit_none : (wanted : Wanted) → part.value ≡ None → all_fit wanted (types_in around (drop k parts)) ≡ false
    fit_none wanted same =
        let one = typed_none table around (expr_of part.e.now) part.value same (part_value table around parts k part item lt h) in
        ap (all_fit wanted) (types_next ∙ ap (λ t. t ∷ types_in around (drop (k + 1) parts)) one)

  pub first_all : (ids : List TyId) (k : ℕ) → length parts ≤ k → AreFirst k ids → Some (map (type_of table) ids) ≡ all_there (types_in around parts)
  first_all ids k end first =
      sym (first.are ∙ ap (λ ps. option_map (λ ts. map (type_of table) ids ++ ts) (all_there (types_in around ps))) (drop_all k parts end)
      ∙ ap Some (append-nil (map (type_of table) ids)))

  pub fit_end : (wanted : Wanted) (k : ℕ) → length parts ≤ k → all_fit wanted (types_in around (drop k parts)) ≡ true
  fit_end wanted k end = ap (λ ps. all_fit wanted (types_in around ps)) (drop_all k parts end)
