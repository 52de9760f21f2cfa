-- Matching finds just the types that make one type another.
use Rattle.std.proofs.Common.{◌≡◌, ◌≢◌, ◌==◌, ◌<◌, ◌≤◌, ◌+◌, ◌↔◌, inl, inr, ℕ, suc, zero, Bool as Truth, true, false, List, [], ◌∷◌, length, max, Option}
use Rattle.std.proofs.Common.{Some, None, slice_get, refl, sym, ap, subst, ◌∙◌, arith, true≢false}
use Rattle.std.proofs.Math.ListN.{set}
use Rattle.std.specs.Cmp.{unsigned_Decides}
use Rattle.std.proofs.lemmas.Bool.Decides.{leb_tells}
use Rattle.std.proofs.lemmas.Option.{slice_get_within}
use Rattle.hy_types.specs.declared.kinds.TyId.{TyId}
use Rattle.hy_types.specs.Types.{Table, HasId, AllBelow, PlainType, Int, Tuple, Array, Param, More, plain_types, type_of}
use Rattle.hy_types.specs.Matching.{substitute, substitute_all, ParametersBelow, AllParametersBelow, Agrees, AreFound, StillFound, Makes, Matches}
use Rattle.hy_types.specs.Matching.{MatchesAll, Fills}
use Rattle.hy_types.proofs.Settling.{set_cases}
use Rattle.hy_types.proofs.Waiting.{there}

set_there : {X : Type 0} (xs : List X) (i : ℕ) (y : X) → i < length xs → slice_get (set xs i y) i ≡ Some y
set_there [] i y l = absurd (omega arith)
set_there (x ∷ xs) zero y l = refl
set_there (x ∷ xs) (suc i) y l = set_there xs i y (omega arith)

set_elsewhere : {X : Type 0} (xs : List X) (i k : ℕ) (y : X) → k ≢ i → slice_get (set xs i y) k ≡ slice_get xs k
set_elsewhere [] i k y other = refl
set_elsewhere (x ∷ xs) zero zero y other = absurd (other refl)
set_elsewhere (x ∷ xs) zero (suc k) y other = refl
set_elsewhere (x ∷ xs) (suc i) zero y other = refl
set_elsewhere (x ∷ xs) (suc i) (suc k) y other = set_elsewhere xs i k y (λ e. other (ap (λ n. suc n) e))

-- a new type for a parameter
module _ (table : Table) (found : List (Option TyId)) (place : ℕ) (given : TyId) (empty : slice_get found place ≡ Some None) where
  apart : (k : ℕ) (id : TyId) → slice_get found k ≡ Some (Some id) → k ≢ place
  apart k id at e =
      let f : ◌≡◌ {A = Option (Option TyId)} (Some None) (Some (Some id)) = sym empty ∙ ap (slice_get found) (sym e) ∙ at in
      let g : ◌≡◌ {A = Option TyId} None (Some id) = cc in
      cc

  pub agrees_set : (types : ℕ → PlainType) → Agrees table (set found place (Some given)) types ↔ (Agrees table found types
      × (types place ≡ type_of table given))
  agrees_set types = (
    λ h. (
      λ k id at. h k id (set_elsewhere found place k (Some given) (apart k id at) ∙ at),
      h place given (set_there found place (Some given) (slice_get_within found place None empty)),
    ),
    λ h k id at.
        elim (set_cases found place k (Some given) (Some id) at) [
          | inl g ↦ (let same : given ≡ id = let f : Some given ≡ Some id = g.1 in cc in ap types g.0 ∙ h.1 ∙ ap (type_of table) same)
          | inr g ↦ h.0 k id g
        ],
  )

  pub still_set : StillFound found (set found place (Some given))
  still_set k id at = set_elsewhere found place k (Some given) (apart k id at) ∙ at

pub found_set : (table : Table) (found : List (Option TyId)) (place : ℕ) (given : TyId) → AreFound table found → HasId table given
    → AreFound table (set found place (Some given))
found_set table found place given known l k id at =
    elim (set_cases found place k (Some given) (Some id) at) [
      | inl g ↦ (let same : given ≡ id = let f : Some given ≡ Some id = g.1 in cc in subst (HasId table) same l)
      | inr g ↦ known k id g
    ]

same_id_of : (a b : TyId) → (a.at == b.at) ≡ true → a ≡ b
same_id_of a b e = λ i. record { at = (unsigned_Decides a.at b.at).0 e i }

other_id_of : (a b : TyId) → (a.at == b.at) ≡ false → a ≡ b → ⊥
other_id_of a b e same = true≢false (sym ((unsigned_Decides a.at b.at).1 (ap (λ (id : TyId). id.at) same)) ∙ e)

module _ (table : Table) (wanted given : TyId) (once : (other : TyId) → HasId table other → type_of table other ≡ type_of table given → other ≡ given) where
  -- where the wanted type is a parameter
  module _ (place : ℕ) (is : type_of table wanted ≡ Param place) (found new : List (Option TyId)) (known : AreFound table found) (l : HasId table given) where
    param : (before : Option TyId) (answer : Truth) → slice_get found place ≡ Some before → Fills place given before answer found new
        → Matches table wanted given found answer new
    param None answer at h =
        subst (λ a. Matches table wanted given found a new) (sym h.0)
        (λ types. let f = agrees_set table found place given at types in
        let e : substitute types (type_of table wanted) ≡ types place = ap (substitute types) is in (
          λ agrees. let g = f.0 (subst (λ n. Agrees table n types) h.1 agrees) in (g.0, e ∙ g.1),
          λ makes. subst (λ n. Agrees table n types) (sym h.1) (f.1 (makes.0, sym e ∙ makes.1)),
        ))
    param (Some other) answer at h = by (other.at == given.at) refl
      where
        by : (b : Truth) → (other.at == given.at) ≡ b → Matches table wanted given found answer new
        by true t =
            subst (λ a. Matches table wanted given found a new) (sym (h.0 ∙ t))
            (λ types. let e : substitute types (type_of table wanted) ≡ types place = ap (substitute types) is in (
              λ agrees. let g = subst (λ n. Agrees table n types) h.1 agrees in (g, e ∙ g place other at ∙ ap (type_of table) (same_id_of other given t)),
              λ makes. subst (λ n. Agrees table n types) (sym h.1) makes.0,
            ))
        by false t =
            subst (λ a. Matches table wanted given found a new) (sym (h.0 ∙ t))
            (λ types makes.
            let e : substitute types (type_of table wanted) ≡ types place = ap (substitute types) is in
            other_id_of other given t (once other (known place other at) (sym (makes.0 place other at) ∙ sym e ∙ makes.1)))

    pub param_matches : (answer : Truth) → place < length found
        → ((before : Option TyId) → slice_get found place ≡ Some before → Fills place given before answer found new)
        → Matches table wanted given found answer new
    param_matches answer inside h = let b = there found place inside in param b.0 answer b.1 (h b.0 b.1)

    fills_still : (before : Option TyId) (answer : Truth) → slice_get found place ≡ Some before → Fills place given before answer found new
        → StillFound found new
    fills_still None answer at h = subst (StillFound found) (sym h.1) (still_set table found place given at)
    fills_still (Some other) answer at h = subst (StillFound found) (sym h.1) (λ k id e. e)

    fills_known : (before : Option TyId) (answer : Truth) → Fills place given before answer found new → AreFound table new
    fills_known None answer h = subst (AreFound table) (sym h.1) (found_set table found place given known l)
    fills_known (Some other) answer h = subst (AreFound table) (sym h.1) known

    pub param_still : (answer : Truth) → place < length found
        → ((before : Option TyId) → slice_get found place ≡ Some before → Fills place given before answer found new) → StillFound found new
    param_still answer inside h = let b = there found place inside in fills_still b.0 answer b.1 (h b.0 b.1)

    pub param_known : (answer : Truth) → place < length found
        → ((before : Option TyId) → slice_get found place ≡ Some before → Fills place given before answer found new) → AreFound table new
    param_known answer inside h = let b = there found place inside in fills_known b.0 answer (h b.0 b.1)

  -- where the wanted type holds nothing
  pub leaf_matches : (found : List (Option TyId)) → HasId table wanted
      → ((types : ℕ → PlainType) → substitute types (type_of table wanted) ≡ type_of table wanted) → (answer : Truth) → answer ≡ (wanted.at == given.at)
      → Matches table wanted given found answer found
  leaf_matches found l plain answer is = subst (λ a. Matches table wanted given found a found) (sym is) (by (wanted.at == given.at) refl)
    where
      by : (b : Truth) → (wanted.at == given.at) ≡ b → Matches table wanted given found b found
      by true t = λ types. (λ agrees. (agrees, plain types ∙ ap (type_of table) (same_id_of wanted given t)), λ makes. makes.0)
      by false t = λ types makes. other_id_of wanted given t (once wanted l (sym (plain types) ∙ makes.1))

  pub array_matches : (a b : TyId) (found new : List (Option TyId)) (answer : Truth) → type_of table wanted ≡ Array (type_of table a)
      → type_of table given ≡ Array (type_of table b) → Matches table a b found answer new → Matches table wanted given found answer new
  array_matches a b found new true p q h = λ types.
      let whole : (substitute types (type_of table a) ≡ type_of table b) → substitute types (type_of table wanted) ≡ type_of table given =
      λ e. ap (substitute types) p ∙ ap Array e ∙ sym q in
      let part : (substitute types (type_of table wanted) ≡ type_of table given) → substitute types (type_of table a) ≡ type_of table b =
      λ e. let f : Array (substitute types (type_of table a)) ≡ Array (type_of table b) = sym (ap (substitute types) p) ∙ e ∙ q in cc in
      (λ agrees. let g = (h types).0 agrees in (g.0, whole g.1), λ makes. (h types).1 (makes.0, part makes.1))
  array_matches a b found new false p q h = λ types makes.
      h types (makes.0, let f : Array (substitute types (type_of table a)) ≡ Array (type_of table b) = sym (ap (substitute types) p) ∙ makes.1 ∙ q in cc)

  pub tuple_matches : (as' bs : List TyId) (found new : List (Option TyId)) (answer : Truth)
      → type_of table wanted ≡ Tuple (plain_types (type_of table) as') → type_of table given ≡ Tuple (plain_types (type_of table) bs)
      → MatchesAll table as' bs found answer new → Matches table wanted given found answer new
  tuple_matches as' bs found new true p q h = λ types. (
    λ agrees. let g = (h types).0 agrees in (g.0, ap (substitute types) p ∙ ap Tuple g.1 ∙ sym q),
    λ makes. (h types).1 (
      makes.0,
      let f : Tuple (substitute_all types (plain_types (type_of table) as')) ≡ Tuple (plain_types (type_of table) bs) =
          sym (ap (substitute types) p) ∙ makes.1 ∙ q in cc,
    ),
  )
  tuple_matches as' bs found new false p q h = λ types makes.
      h types makes.0 (let f : Tuple (substitute_all types (plain_types (type_of table) as')) ≡ Tuple (plain_types (type_of table) bs) =
      sym (ap (substitute types) p) ∙ makes.1 ∙ q in cc)

-- lists of types, place by place
abbrev pub EachMade : Table → (ℕ → PlainType) → List TyId → List TyId → ℕ → Type 0
EachMade table types ws gs n = (k : ℕ) (w g : TyId) → k < n → slice_get ws k ≡ Some w → slice_get gs k ≡ Some g
    → substitute types (type_of table w) ≡ type_of table g

-- after some places
pub record Extending (table : Table) (ws gs : List TyId) (old new : List (Option TyId)) (place : ℕ) : Type 0 where
  pub solves : (types : ℕ → PlainType) → Agrees table new types ↔ (Agrees table old types × EachMade table types ws gs place)
  pub kept : StillFound old new
  pub known : AreFound table new
  pub places : length new ≡ length old

-- one more than the highest number
abbrev pub highest : List TyId → ℕ
highest [] = 0
highest (id ∷ ids) = max (id.at + 1) (highest ids)

pub highest-below : (n : ℕ) (ids : List TyId) → AllBelow n ids → highest ids ≤ n
highest-below n [] h = omega arith
highest-below n (id ∷ ids) h = omega (arith, h.0, highest-below n ids h.1)

pub highest-above : (ids : List TyId) (k : ℕ) (id : TyId) → slice_get ids k ≡ Some id → id.at < highest ids
highest-above [] k id e = cc
highest-above (x ∷ ids) zero id e = let same : x ≡ id = cc in let at : x.at ≡ id.at = ap (λ (i : TyId). i.at) same in omega (arith, at)
highest-above (x ∷ ids) (suc k) id e = omega (arith, highest-above ids k id e)

module _ (table : Table) (types : ℕ → PlainType) where
  each_of : (ws gs : List TyId) (n : ℕ) → substitute_all types (plain_types (type_of table) ws) ≡ plain_types (type_of table) gs → EachMade table types ws gs n
  each_of [] gs n e k w g l p q = cc
  each_of (x ∷ ws) [] n e k w g l p q = cc
  each_of (x ∷ ws) (y ∷ gs) n e zero w g l p q =
      let head : substitute types (type_of table x) ≡ type_of table y = cc in
      let a : x ≡ w = cc in
      let b : y ≡ g = cc in
      ap (λ i. substitute types (type_of table i)) (sym a) ∙ head ∙ ap (type_of table) b
  each_of (x ∷ ws) (y ∷ gs) n e (suc k) w g l p q =
      let tail : substitute_all types (plain_types (type_of table) ws) ≡ plain_types (type_of table) gs = cc in
      each_of ws gs n tail k w g (omega arith) p q

  all_of : (ws gs : List TyId) → length ws ≡ length gs → EachMade table types ws gs (length ws)
      → substitute_all types (plain_types (type_of table) ws) ≡ plain_types (type_of table) gs
  all_of [] [] e each = refl
  all_of [] (y ∷ gs) e each = absurd (omega (arith, e))
  all_of (x ∷ ws) [] e each = absurd (omega (arith, e))
  all_of (x ∷ ws) (y ∷ gs) e each =
      λ i. More (each 0 x y (omega arith) refl refl i) (all_of ws gs (omega (arith, e)) (λ k w g l p q. each (suc k) w g (omega arith) p q) i)

  same_length : (ws gs : List TyId) → substitute_all types (plain_types (type_of table) ws) ≡ plain_types (type_of table) gs → length ws ≡ length gs
  same_length [] [] e = refl
  same_length [] (y ∷ gs) e = cc
  same_length (x ∷ ws) [] e = cc
  same_length (x ∷ ws) (y ∷ gs) e =
      let tail : substitute_all types (plain_types (type_of table) ws) ≡ plain_types (type_of table) gs = cc in
      ap (λ n. suc n) (same_length ws gs tail)

module _ (table : Table) (ws gs : List TyId) (old : List (Option TyId)) where
  pub lengths_differ : (length ws ≡ length gs → ⊥) → MatchesAll table ws gs old false old
  lengths_differ differ = λ types agrees e. differ (same_length table types ws gs e)

  pub extending_start : AreFound table old → Extending table ws gs old old 0
  extending_start known = record {
    solves = λ types. (λ h. (h, λ k w g l p q. absurd (omega (arith, l))), λ h. h.0);
    kept = λ k id e. e;
    known =
        known;
    places = refl;
  }

  pub extending_end : (new : List (Option TyId)) (place : ℕ) → length ws ≤ place → length ws ≡ length gs → Extending table ws gs old new place
      → MatchesAll table ws gs old true new
  extending_end new place l same before = λ types. (
    λ agrees. let h = (before.solves types).0 agrees in (h.0, all_of table types ws gs same (λ k w g m p q. h.1 k w g (omega arith) p q)),
    λ h. (before.solves types).1 (h.0, each_of table types ws gs place h.1),
  )

  module _ (now : List (Option TyId)) (place : ℕ) (w g : TyId) (at : slice_get ws place ≡ Some w) (at' : slice_get gs place ≡ Some g)
      (before : Extending table ws gs old now place) where
    pub extending_more : (new : List (Option TyId)) → Matches table w g now true new → StillFound now new → AreFound table new → length new ≡ length now
        → Extending table ws gs old new (place + 1)
    extending_more new h still known long = record {
      solves = λ types. (
        λ agrees.
            let a = (h types).0 agrees in
            let b = (before.solves types).0 a.0 in (
              b.0,
              λ k w' g' l p q.
                  elim (leb_tells (suc k) place) [
                    | inl t ↦ b.1 k w' g' (omega (arith, t.1)) p q
                    | inr t ↦
                        let e : k ≡ place = omega (arith, t.1) in
                        let f : Some w ≡ Some w' = sym at ∙ ap (slice_get ws) (sym e) ∙ p in
                        let f' : Some g ≡ Some g' = sym at' ∙ ap (slice_get gs) (sym e) ∙ q in
                        let s : w ≡ w' = cc in
                        let s' : g ≡ g' = cc in
                        ap (λ i. substitute types (type_of table i)) (sym s) ∙ a.1 ∙ ap (type_of table) s'
                  ],
            ),
        λ makes. (h types).1 (
          (before.solves types).1 (makes.0, λ k w' g' l p q. makes.1 k w' g' (omega (arith, l)) p q),
          makes.1 place w g (omega arith) at at',
        ),
      );
      kept = λ k id e. still k id (before.kept k id e);
      known = known;
      places = long ∙ before.places;
    }

    pub extending_fails : (new : List (Option TyId)) → Matches table w g now false new → MatchesAll table ws gs old false new
    extending_fails new h = λ types agrees e.
        h types ((before.solves types).1 (agrees, each_of table types ws gs place e), each_of table types ws gs (place + 1) e place w g (omega arith) at at')

pub parameters_at : (table : Table) (count : ℕ) (ws : List TyId) (k : ℕ) (w : TyId) → AllParametersBelow count (plain_types (type_of table) ws)
    → slice_get ws k ≡ Some w → ParametersBelow count (type_of table w)
parameters_at table count [] k w h e = cc
parameters_at table count (x ∷ ws) zero w h e = let same : x ≡ w = cc in subst (λ i. ParametersBelow count (type_of table i)) same h.0
parameters_at table count (x ∷ ws) (suc k) w h e = parameters_at table count ws k w h.1 e

-- the types that were found, and for the rest any
told : Table → Option (Option TyId) → PlainType
told table None = Int
told table (Some None) = Int
told table (Some (Some id)) = type_of table id

found_types : Table → List (Option TyId) → ℕ → PlainType
found_types table found place = told table (slice_get found place)

agrees_found : (table : Table) (found : List (Option TyId)) → Agrees table found (found_types table found)
unfolding told found_types
agrees_found table found place id at = ap (told table) at

-- matching answers true exactly where some types do it
pub exactly : (table : Table) (wanted given : TyId) (old new : List (Option TyId)) (answer : Truth) → Matches table wanted given old answer new
    → (answer ≡ true) ↔ ((types : ℕ → PlainType) × Makes table old wanted given types)
exactly table wanted given old new true h = (λ e. (found_types table new, (h (found_types table new)).0 (agrees_found table new)), λ p. refl)
exactly table wanted given old new false h = (λ e. absurd (true≢false (sym e)), λ p. absurd (h p.0 p.1))
