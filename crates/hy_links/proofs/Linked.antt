-- What the list of the records is after their slots have changed.
use Rattle.std.proofs.Common.{◌≡◌, ◌≢◌, ◌⊎◌, ◌<◌, ◌≤◌, ◌+◌, ℕ, zero, suc, List, [], ◌∷◌, ◌++◌, length, Option, Some, None, IsSome, IsSomeAnd, is_some, refl}
use Rattle.std.proofs.Common.{sym, ap, ◌∙◌, subst, inl, inr, arith, cond, map, set, get_or}
use Rattle.std.proofs.lemmas.Bool.{cases_eq}
use Rattle.std.proofs.lemmas.List.Sums.{sum_by-set}
use Rattle.slab.specs.Slab.{Slab, get, slab_len, ContainsKey, Updates, with_value}
use Rattle.slab.proofs.SlabLemmas.{Updates-with_value, ContainsKey-within}
use Rattle.hy_links.specs.Chains.{head, Chain, onto, times, dropped, AreApart, Unlinks, PutsInFront}
use Rattle.hy_links.specs.Keyed.{numbered, without, changed, in_front, gathered}
use Rattle.hy_links.specs.Linked.{Layout, look, with_change, Changes, before_at, after_at, held_at, newest_first, listed, AreLinked, IsPushed, IsUnlinked}
use Rattle.hy_links.proofs.Chains.{chain_from-all, kept, times-onto, times-same, times-other, put_in_front, apart-front, taken_out, neighbours, Neighbours}
use Rattle.hy_links.proofs.Chains.{apart-dropped, times-dropped_other, times-dropped_same, dropped-onto}
use Rattle.hy_links.proofs.Keyed.{AreInPlace, gathered-same, gathered-front, numbered-gathered, numbered-absent, gathered-changed, gathered-dropped}

pub zero_or_more : (n : ℕ) → (n ≡ 0) ⊎ (0 < n)
zero_or_more zero = inl refl
zero_or_more (suc n) = inr (omega arith)

pub none_or_some : {A : Type 0} → (o : Option A) → (o ≡ None) ⊎ (o ≢ None)
none_or_some None = inl refl
none_or_some (Some i) = inr (λ is. cc)

pub cases_some : (o : Option ℕ) (i : ℕ) → (o ≡ Some i) ⊎ (o ≢ Some i)
cases_some None i = inr (λ is. cc)
cases_some (Some j) i = elim (cases_eq j i) [
  | inl same ↦ inl (ap (λ k. Some k) same)
  | inr differs ↦ inr (λ is. let same : j ≡ i = cc in differs same)
]

pub some_such : {A : Type 0} → (found : Option A) (Such : A → Type 0) → IsSomeAnd found Such → IsSome found
some_such None Such such = absurd such
some_such (Some a) Such such = refl

-- what one change of a slot does to what is found in the slots
module _ {S Y : Type 0} (old new : Slab S) (at : Option ℕ) (change : S → S) (changes : Changes old new at change) where
  stays_in : (find : S → Option Y) → ((slot : S) → find (change slot) ≡ find slot) → (one : Option S) → look find (with_change change one) ≡ look find one
  stays_in find same None = refl
  stays_in find same (Some slot) = same slot

  pub stays : (find : S → Option Y) → ((slot : S) → find (change slot) ≡ find slot) → (i : ℕ) → look find (get new i) ≡ look find (get old i)
  stays find same i = elim (cases_some at i) [
    | inl is ↦ ap (look find) (changes.here i is) ∙ stays_in find same (get old i)
    | inr away ↦ ap (look find) (changes.elsewhere i away)
  ]

  pub elsewhere : (find : S → Option Y) → (i : ℕ) → at ≢ Some i → look find (get new i) ≡ look find (get old i)
  elsewhere find i away = ap (look find) (changes.elsewhere i away)

  set_in : (find : S → Option Y) (value : Option Y) → ((slot : S) → find (change slot) ≡ value) → (one : Option S) → IsSome one
      → look find (with_change change one) ≡ value
  set_in find value is None some = absurd (cc)
  set_in find value is (Some slot) some = is slot

  pub sets : (find : S → Option Y) (value : Option Y) → ((slot : S) → find (change slot) ≡ value) → (i : ℕ) → at ≡ Some i → ContainsKey old i
      → look find (get new i) ≡ value
  sets find value set i is key = ap (look find) (changes.here i is) ∙ set_in find value set (get old i) key

module _ {S : Type 0} where
  used_in : (change : S → S) (one : Option S) → is_some (with_change change one) ≡ is_some one
  used_in change None = refl
  used_in change (Some slot) = refl

  pub used : (old new : Slab S) (at : Option ℕ) (change : S → S) → Changes old new at change → (i : ℕ) → is_some (get new i) ≡ is_some (get old i)
  used old new at change changes i = elim (cases_some at i) [
    | inl is ↦ ap is_some (changes.here i is) ∙ used_in change (get old i)
    | inr away ↦ ap is_some (changes.elsewhere i away)
  ]

  -- a write in place of what was in a slot
  pub changes_written : (old : Slab S) (at : ℕ) (slot : S) (change : S → S) → get old at ≡ Some slot
      → Changes old (with_value old at (change slot)) (Some at) change
  changes_written old at slot change was =
      let key : ContainsKey old at = rw was refl in
      let updates = Updates-with_value old at (change slot) key in
      let one = sum_by-set (λ (o : Option S). cond (is_some o) 1 0) old.slots at (Some (change slot)) None (ContainsKey-within old at key) in
      let f : Option S → ℕ = λ o. cond (is_some o) 1 0 in
      let held_one : f (get_or old.slots at None) ≡ 1 = ap f was in
      record {
        here = λ i is. let same : at ≡ i = cc in
            rw (sym same) (updates.changed ∙ sym (ap (with_change change) was));
        elsewhere = λ i away. updates.others i (λ same. away (ap (λ k. Some k) (sym same)));
        as_many = omega (arith, one, held_one);
      }

  -- no write, where the slot is not in use, or there is none
  pub changes_nothing : (old : Slab S) (at : Option ℕ) (change : S → S) → ((i : ℕ) → at ≡ Some i → get old i ≡ None) → Changes old old at change
  changes_nothing old at change free =
      record {
        here = λ i is. free i is ∙ sym (ap (with_change change) (free i is));
        elsewhere = λ i away. refl;
        as_many = refl;
      }

module _ {S X : Type 0} (layout : Layout S X) where
  found_in_place : (i : ℕ) (one : Option S) (x : X) → look (λ slot. Some (layout.held i slot)) one ≡ Some x → layout.number x ≡ i
  found_in_place i None x is = absurd (cc)
  found_in_place i (Some slot) x is = let same : layout.held i slot ≡ x = cc in sym (ap layout.number same) ∙ layout.in_place i slot

  pub in_place : (slots : Slab S) → AreInPlace layout.number (held_at layout slots)
  in_place slots = record { in_place = λ i x is. found_in_place i (get slots i) x is }

  -- the slots are linked, and these are they
  pub record AreLinkedAs (slots : Slab S) (newest : Option ℕ) (order : List ℕ) : Type 0 where
    pub linked : AreLinked layout slots newest
    pub is : newest_first layout slots newest ≡ order

  pub linked_as : (slots : Slab S) (newest : Option ℕ) (order : List ℕ) → Chain (before_at layout slots) (after_at layout slots) None newest order
      → AreApart order → ((i : ℕ) → 0 < times i order → ContainsKey slots i) → length order ≡ slab_len slots → AreLinkedAs slots newest order
  linked_as slots newest order chain apart in_use all =
      let is = chain_from-all (before_at layout slots) (after_at layout slots) None newest order (slab_len slots) (omega arith) chain in
      record {
        linked = record {
          chain = rw is chain;
          apart = rw is apart;
          in_use = rw is in_use;
          all = rw is all;
        };
        is = is;
      }

  module _ (slots : Slab S) (newest : Option ℕ) (linked : AreLinked layout slots newest) where
    absent_or_there : (n : ℕ) → (numbered layout.number n (listed layout slots newest) ≡ None) ⊎ (0 < times n (newest_first layout slots newest))
    absent_or_there n = elim (zero_or_more (times n (newest_first layout slots newest))) [
      | inl none ↦ inl (numbered-absent layout.number (held_at layout slots) (in_place slots) n (onto (newest_first layout slots newest) [])
          (times-onto n (newest_first layout slots newest) [] ∙ omega (arith, none)))
      | inr there ↦ inr there
    ]

    -- the slot of a record that is in the list is on the chain
    pub on_chain : (n : ℕ) → IsSome (numbered layout.number n (listed layout slots newest)) → 0 < times n (newest_first layout slots newest)
    on_chain n live = elim (absent_or_there n) [
      | inl absent ↦ let never : IsSome {T = X} None = rw absent at live in absurd (cc)
      | inr there ↦ there
    ]

    pub live_slot : (n : ℕ) → IsSome (numbered layout.number n (listed layout slots newest)) → ContainsKey slots n
    live_slot n live = linked.in_use n (on_chain n live)

    -- what is on the chain is in the list
    pub found_there : (n : ℕ) → 0 < times n (newest_first layout slots newest) → numbered layout.number n (listed layout slots newest) ≡ held_at layout slots n
    found_there n there =
        numbered-gathered layout.number (held_at layout slots) (in_place slots) n (onto (newest_first layout slots newest) [])
        (omega (arith, times-onto n (newest_first layout slots newest) [], there))

    pub live_held : (n : ℕ) (slot : S) → IsSome (numbered layout.number n (listed layout slots newest)) → get slots n ≡ Some slot
        → numbered layout.number n (listed layout slots newest) ≡ Some (layout.held n slot)
    live_held n slot live is = found_there n (on_chain n live) ∙ ap (look (λ one. Some (layout.held n one))) is

    pub near_by : (n : ℕ) → IsSome (numbered layout.number n (listed layout slots newest))
        → Neighbours (before_at layout slots) (after_at layout slots) n (newest_first layout slots newest)
    near_by n live =
        neighbours (before_at layout slots) (after_at layout slots) newest n (newest_first layout slots newest) linked.chain linked.apart (on_chain n live)

  found_once : (one : Option S) (i n : ℕ) (rest : List X) → i ≢ n
      → times n (map layout.number (in_front (look (λ slot. Some (layout.held i slot)) one) rest)) ≡ times n (map layout.number rest)
  found_once None i n rest differs = refl
  found_once (Some slot) i n rest differs =
      times-other n (layout.number (layout.held i slot)) (map layout.number rest) (λ same. differs (sym (layout.in_place i slot) ∙ same))

  found_twice : (one : Option S) (n : ℕ) (rest : List X)
      → times n (map layout.number (in_front (look (λ slot. Some (layout.held n slot)) one) rest)) ≤ times n (map layout.number rest) + 1
  found_twice None n rest = omega arith
  found_twice (Some slot) n rest = rw (layout.in_place n slot) (omega (arith, times-same n (map layout.number rest)))

  -- a number is in the list at most as often as its slot is among the places
  no_more : (slots : Slab S) (n : ℕ) (places : List ℕ) → times n (map layout.number (gathered (held_at layout slots) places)) ≤ times n places
  no_more slots n [] = omega arith
  no_more slots n (i ∷ places) = elim (cases_eq i n) [
    | inl same ↦ rw same (omega (arith, no_more slots n places, found_twice (get slots n) n (gathered (held_at layout slots) places), times-same n places))
    | inr differs ↦
        omega (arith, no_more slots n places, found_once (get slots i) i n (gathered (held_at layout slots) places) differs, times-other n i places differs)
  ]

  pub own_numbers : (slots : Slab S) (newest : Option ℕ) → AreLinked layout slots newest → AreApart (map layout.number (listed layout slots newest))
  own_numbers slots newest linked n =
      omega (arith, no_more slots n (onto (newest_first layout slots newest) []), times-onto n (newest_first layout slots newest) [], linked.apart n)

  -- running out of memory leaves the slots as they are
  pub unchanged : (old new : Slab S) (newest : Option ℕ) → new.slots ≡ old.slots → AreLinked layout old newest → AreLinked layout new newest
  unchanged old new newest same linked =
      let P : List (Option S) → Type 0 = λ slots. AreLinked layout (record { slots = slots; vacant_key = new.vacant_key; capacity = new.capacity }) newest in
      subst P (sym same) (record { chain = linked.chain; apart = linked.apart; in_use = linked.in_use; all = linked.all })

module _ {S X : Type 0} (layout : Layout S X) where
  found_after : (change : S → S) (what : X → X) (i : ℕ) → ((slot : S) → layout.held i (change slot) ≡ what (layout.held i slot)) → (one : Option S) (x : X)
      → look (λ slot. Some (layout.held i slot)) one ≡ Some x → look (λ slot. Some (layout.held i slot)) (with_change change one) ≡ Some (what x)
  found_after change what i held None x is = absurd (cc)
  found_after change what i held (Some slot) x is =
      let same : layout.held i slot ≡ x = cc in
      ap (λ y. Some y) (held slot) ∙ ap (λ y. Some (what y)) same

  found_none : (change : S → S) (i : ℕ) (one : Option S) → look (λ slot. Some (layout.held i slot)) one ≡ None
      → look (λ slot. Some (layout.held i slot)) (with_change change one) ≡ None
  found_none change i None is = refl
  found_none change i (Some slot) is = absurd (cc)

  -- a record is written anew, and its links stay
  pub record IsTouched (old new : Slab S) (newest : Option ℕ) (n : ℕ) (what : X → X) : Type 0 where
    pub linked : AreLinked layout new newest
    pub lists : listed layout new newest ≡ changed layout.number n what (listed layout old newest)

  pub touched : (old new : Slab S) (newest : Option ℕ) (n : ℕ) (change : S → S) (what : X → X) → AreLinked layout old newest
      → Changes old new (Some n) change → ((slot : S) → layout.before (change slot) ≡ layout.before slot)
      → ((slot : S) → layout.after (change slot) ≡ layout.after slot) → ((slot : S) → layout.held n (change slot) ≡ what (layout.held n slot))
      → IsTouched old new newest n what
  touched old new newest n change what linked changes same_before same_after held =
      let order = newest_first layout old newest in
      let chain = kept (before_at layout old) (after_at layout old) (before_at layout new) (after_at layout new) None newest order linked.chain
      (λ i there. stays old new (Some n) change changes layout.before same_before i)
      (λ i there. stays old new (Some n) change changes layout.after same_after i) in
      let again = linked_as layout new newest order chain linked.apart
      (λ i there. used old new (Some n) change changes i ∙ linked.in_use i there) (linked.all ∙ sym changes.as_many) in
      record {
        linked = again.linked;
        lists = rw again.is (gathered-changed layout.number (held_at layout old) (held_at layout new) (in_place layout old) n what
            (λ i differs. elsewhere old new (Some n) change changes (λ slot. Some (layout.held i slot)) i (λ same. let e : n ≡ i = cc in differs (sym e)))
            (λ x is. ap (look (λ slot. Some (layout.held n slot))) (changes.here n refl) ∙ found_after change what n held (get old n) x is)
            (λ is. ap (look (λ slot. Some (layout.held n slot))) (changes.here n refl) ∙ found_none change n (get old n) is)
            (onto order []));
      }

  found_used : (i : ℕ) (one other : Option S) → look (λ slot. Some (layout.held i slot)) one ≡ look (λ slot. Some (layout.held i slot)) other → IsSome other
      → IsSome one
  found_used i None None same some = some
  found_used i None (Some slot) same some = absurd (cc)
  found_used i (Some slot) other same some = refl

  some_used : (i : ℕ) (one : Option S) (x : X) → look (λ slot. Some (layout.held i slot)) one ≡ Some x → IsSome one
  some_used i None x is = absurd (cc)
  some_used i (Some slot) x is = refl

  -- a record is put after the newest
  pub record IsStarted (old new : Slab S) (newest : Option ℕ) (index : ℕ) (x : X) : Type 0 where
    pub linked : AreLinked layout new (Some index)
    pub lists : listed layout new (Some index) ≡ listed layout old newest ++ x ∷ []
    pub is_new : IsSome (numbered layout.number index (listed layout old newest)) → ⊥
    pub order : newest_first layout new (Some index) ≡ index ∷ newest_first layout old newest
    pub not_yet : times index (newest_first layout old newest) ≡ 0

  module _ (old new : Slab S) (newest : Option ℕ) (index : ℕ) (x : X) (linked : AreLinked layout old newest)
      (pushed : IsPushed layout old new newest index x) where
    absent : (i : ℕ) → ContainsKey old i → i ≢ index
    absent i key same = let never : IsSome {T = S} None = rw (ap (get old) same ∙ pushed.was_free) at key in absurd (cc)

    not_yet : times index (newest_first layout old newest) ≡ 0
    not_yet = elim (zero_or_more (times index (newest_first layout old newest))) [
      | inl none ↦ none
      | inr there ↦ absurd (absent index (linked.in_use index there) refl)
    ]

    in_use_still : (i : ℕ) → 0 < times i (index ∷ newest_first layout old newest) → ContainsKey new i
    in_use_still i there = elim (cases_eq index i) [
      | inl same ↦ rw (sym same) (some_used index (get new index) x pushed.holds)
      | inr differs ↦
          let key = linked.in_use i (omega (arith, there, times-other i index (newest_first layout old newest) differs)) in
          found_used i (get new i) (get old i) (pushed.others i (λ e. differs (sym e))) key
    ]

    pub started_so : IsStarted old new newest index x
    started_so =
        let order = newest_first layout old newest in
        let chain = put_in_front (before_at layout old) (after_at layout old) (before_at layout new) (after_at layout new) newest index order linked.chain
        linked.apart not_yet pushed.puts in
        let again = linked_as layout new (Some index) (index ∷ order) chain (apart-front index order linked.apart not_yet) in_use_still
        (omega (arith, linked.all, pushed.one_more)) in
        let same = gathered-same (held_at layout old) (held_at layout new) (onto order [])
        (λ i there. pushed.others i (absent i (linked.in_use i (omega (arith, there, times-onto i order []))))) in
        record {
          linked = again.linked;
          lists = rw again.is (gathered-front (held_at layout new) index order ∙ rw (same, pushed.holds) refl);
          is_new = λ live. absent index (live_slot layout old newest linked index live) refl;
          order = again.is;
          not_yet = not_yet;
        }

  -- a record is taken out
  pub record IsEnded (old new : Slab S) (newest left : Option ℕ) (n : ℕ) : Type 0 where
    pub linked : AreLinked layout new left
    pub lists : listed layout new left ≡ without layout.number n (listed layout old newest)
    pub order : newest_first layout new left ≡ dropped n (newest_first layout old newest)

  module _ (old new : Slab S) (newest left : Option ℕ) (n : ℕ) (slot : S) (linked : AreLinked layout old newest)
      (live : IsSome (numbered layout.number n (listed layout old newest))) (was : get old n ≡ Some slot) (unlinked : IsUnlinked layout old new n)
      (last : layout.after slot ≡ None → left ≡ layout.before slot) (not_last : layout.after slot ≢ None → left ≡ newest) where
    in_use_left : (i : ℕ) → 0 < times i (dropped n (newest_first layout old newest)) → ContainsKey new i
    in_use_left i there = elim (cases_eq i n) [
      | inl same ↦ absurd (omega (
        arith,
        there,
        ap (λ k. times k (dropped n (newest_first layout old newest))) same,
        times-dropped_same n (newest_first layout old newest),
      ))
      | inr differs ↦
          let key = linked.in_use i (omega (arith, there, times-dropped_other n i (newest_first layout old newest) differs)) in
          found_used i (get new i) (get old i) (unlinked.others i differs) key
    ]

    pub ended_so : IsEnded old new newest left n
    ended_so =
        let order = newest_first layout old newest in
        let rest = taken_out (before_at layout old) (after_at layout old) (before_at layout new) (after_at layout new) newest n order linked.chain
        linked.apart (on_chain layout old newest linked n live) unlinked.unlinks in
        let is_before : before_at layout old n ≡ layout.before slot = ap (look layout.before) was in
        let is_after : after_at layout old n ≡ layout.after slot = ap (look layout.after) was in
        let begin : left ≡ head (dropped n order) = elim (none_or_some (layout.after slot)) [
          | inl none ↦ last none ∙ sym is_before ∙ sym (rest.first_left (is_after ∙ none))
          | inr some ↦ not_last some ∙ sym (rest.first_stays (λ none. some (sym is_after ∙ none)))
        ] in
        let again = linked_as layout new left (dropped n order) (rw begin rest.chain) (apart-dropped n order linked.apart) in_use_left
        (omega (arith, rest.one_less, linked.all, unlinked.one_less)) in
        record {
          linked = again.linked;
          lists = rw again.is (ap (gathered (held_at layout new)) (sym (dropped-onto n order []))
              ∙ gathered-dropped layout.number (held_at layout old) (held_at layout new) (in_place layout old) n unlinked.others (onto order []));
          order = again.is;
        }

-- two slabs in whose slots the same is found
pub record Alike {S : Type 0} (old new : Slab S) (find : S → Option ℕ) : Type 0 where
  pub alike : (i : ℕ) → look find (get new i) ≡ look find (get old i)

pub alike_self : {S : Type 0} (slots : Slab S) (find : S → Option ℕ) → Alike slots slots find
alike_self slots find = record { alike = λ i. refl }

pub alike_changed : {S : Type 0} (old new : Slab S) (at : Option ℕ) (change : S → S) (find : S → Option ℕ) → Changes old new at change
    → ((slot : S) → find (change slot) ≡ find slot) → Alike old new find
alike_changed old new at change find changes same = record { alike = stays old new at change changes find same }

pub alike_then : {S : Type 0} (old mid new : Slab S) (find : S → Option ℕ) → Alike old mid find → Alike mid new find → Alike old new find
alike_then old mid new find first second = record { alike = λ i. second.alike i ∙ first.alike i }

-- a slot is filled, the one that is now after it is linked to it, and nothing else happens to the links
pub puts_told : {S : Type 0} (old filled ready told new : Slab S) (x : ℕ) (slot : S) (at : Option ℕ) (change : S → S) (next back : S → Option ℕ)
    → Updates old filled x (Some slot) → Alike filled ready next → Alike filled ready back → ((i : ℕ) → is_some (get ready i) ≡ is_some (get filled i))
    → Changes ready told at change → ((s : S) → next (change s) ≡ next s) → ((s : S) → back (change s) ≡ Some x) → Alike told new next → Alike told new back
    → next slot ≡ at → back slot ≡ None → ((i : ℕ) → at ≡ Some i → (i ≢ x) × ContainsKey old i)
    → PutsInFront (λ i. look next (get old i)) (λ i. look back (get old i)) (λ i. look next (get new i)) (λ i. look back (get new i)) at x
puts_told old filled ready told new x slot at change next back fills next_ready back_ready ready_used tells next_told back_told next_new back_new is_at
    is_none there =
    let next_all : (i : ℕ) → look next (get new i) ≡ look next (get filled i) =
    λ i. next_new.alike i ∙ stays ready told at change tells next next_told i ∙ next_ready.alike i in
    let back_away : (i : ℕ) → at ≢ Some i → look back (get new i) ≡ look back (get filled i) =
    λ i away. back_new.alike i ∙ elsewhere ready told at change tells back i away ∙ back_ready.alike i in
    record {
      next_new = next_all x ∙ ap (look next) fills.changed ∙ is_at;
      next_kept = λ i differs. next_all i ∙ ap (look next) (fills.others i differs);
      back_new = back_away x (λ is. (there x is).0 refl) ∙ ap (look back) fills.changed ∙ is_none;
      back_joined = λ i differs is.
          back_new.alike i ∙ sets ready told at change tells back (Some x) back_told i is (ready_used i
          ∙ ap is_some (fills.others i differs) ∙ (there i is).1);
      back_kept = λ i differs away. back_away i away ∙ ap (look back) (fills.others i differs);
    }

-- a slot is emptied, its two neighbours are linked to each other, and nothing else happens to the links
pub unlinks_told : {S : Type 0} (old emptied ready told linked new : Slab S) (x : ℕ) (slot : S) (tell_back tell_next : S → S) (next back : S → Option ℕ)
    → get old x ≡ Some slot → Updates old emptied x None → Alike emptied ready next → Alike emptied ready back
    → ((i : ℕ) → is_some (get ready i) ≡ is_some (get emptied i)) → Changes ready told (next slot) tell_back → Changes told linked (back slot) tell_next
    → ((s : S) → next (tell_back s) ≡ next s) → ((s : S) → back (tell_back s) ≡ back slot) → ((s : S) → back (tell_next s) ≡ back s)
    → ((s : S) → next (tell_next s) ≡ next slot) → Alike linked new next → Alike linked new back
    → ((i : ℕ) → next slot ≡ Some i → (i ≢ x) × ContainsKey old i) → ((i : ℕ) → back slot ≡ Some i → (i ≢ x) × ContainsKey old i)
    → Unlinks (λ i. look next (get old i)) (λ i. look back (get old i)) (λ i. look next (get new i)) (λ i. look back (get new i)) x
unlinks_told old emptied ready told linked new x slot tell_back tell_next next back was empties next_ready back_ready ready_used first second next_first
    back_first back_second next_second next_new back_new next_there back_there =
    let is_next : look next (get old x) ≡ next slot = ap (look next) was in
    let is_back : look back (get old x) ≡ back slot = ap (look back) was in
    let in_ready : (i : ℕ) → i ≢ x → ContainsKey old i → ContainsKey ready i = λ i differs key. ready_used i ∙ ap is_some (empties.others i differs) ∙ key in
    record {
      next_joined = λ i is.
          let there = back_there i (sym is_back ∙ is) in
          next_new.alike i
          ∙ sets told linked (back slot) tell_next second next (next slot) next_second i (sym is_back ∙ is) (used ready told (next slot) tell_back first i
          ∙ in_ready i there.0 there.1)
          ∙ sym is_next;
      next_kept = λ i differs away.
          next_new.alike i
          ∙ elsewhere told linked (back slot) tell_next second next i (λ is. away (is_back ∙ is))
          ∙ stays ready told (next slot) tell_back first next next_first i
          ∙ next_ready.alike i
          ∙ ap (look next) (empties.others i differs);
      back_joined = λ i is.
          let there = next_there i (sym is_next ∙ is) in
          back_new.alike i
          ∙ stays told linked (back slot) tell_next second back back_second i
          ∙ sets ready told (next slot) tell_back first back (back slot) back_first i (sym is_next ∙ is) (in_ready i there.0 there.1)
          ∙ sym is_back;
      back_kept = λ i differs away.
          back_new.alike i
          ∙ stays told linked (back slot) tell_next second back back_second i
          ∙ elsewhere ready told (next slot) tell_back first back i (λ is. away (is_next ∙ is))
          ∙ back_ready.alike i
          ∙ ap (look back) (empties.others i differs);
    }
