-- What becomes of the names of live accesses where one is opened and where one is closed.
use Rattle.std.proofs.Common.{◌≡◌, ◌<◌, ℕ, suc, Bool, true, false, nat_eq, cond, ◌⊎◌, inl, inr, List, [], ◌∷◌, ◌++◌, Option, Some, None, is_some, refl, sym}
use Rattle.std.proofs.Common.{ap, subst, ◌∙◌, arith}
use Rattle.std.specs.Option.{option_map}
use Rattle.std.proofs.lemmas.Bool.Decides.{nat_tests}
use Rattle.hy_access.specs.declared.access.AccId.{AccId}
use Rattle.hy_access.specs.declared.access.Range.{Range}
use Rattle.hy_access.specs.declared.access.Way.{Way}
use Rattle.hy_access.specs.Accesses as live
use Rattle.hy_access.specs.Accesses.{IsLive, IsLiveIfGiven, HasChild, slot_of, without_access}
use Rattle.hy_links.specs.Keyed.{numbered, without}
use Rattle.hy_object.specs.States as machine
use Rattle.hy_object.specs.States.{with_at}
use Rattle.hy_store.specs.Opened.{Opened, RepresentAccesses, abstract_access, abstract_range, abstract_way, chain_of, chain_in}
use Rattle.hy_store.proofs.Chains.{found}
use Rattle.hy_store.proofs.Holding.{same_or_other}

module _ {X : Type 0} (number : X → ℕ) where
  -- who is found where one is put after all others, whose number no other has
  pub numbered_behind : (xs : List X) (x : X) (n : ℕ) → numbered number (number x) xs ≡ None
      → numbered number n (xs ++ x ∷ []) ≡ cond (nat_eq n (number x)) (Some x) (numbered number n xs)
  numbered_behind [] x n none = flipped (nat_eq (number x) n) (nat_eq n (number x)) (flip (number x) n)
    where
      flip : (a b : ℕ) → nat_eq a b ≡ nat_eq b a
      flip a b = grind (arith, nat_tests)

      flipped : (a b : Bool) → a ≡ b → cond a (Some x) None ≡ cond b (Some x) None
      flipped a b h = ap (λ t. cond t (Some x) None) h
  numbered_behind (y ∷ xs) x n none =
      elim (same_or_other (number y) (number x)) [
        | inl same ↦ absurd (some_none (sym (ap (λ t. cond t (Some y) (numbered number (number x) xs)) same.0) ∙ none))
        | inr differs ↦
            let rest : numbered number (number x) xs ≡ None = sym (ap (λ t. cond t (Some y) (numbered number (number x) xs)) differs) ∙ none in
            let so = numbered_behind xs x n rest in
            elim (same_or_other (number y) n) [
              | inl here ↦ ap (λ t. cond t (Some y) (numbered number n (xs ++ x ∷ []))) here.0
                  ∙ sym (ap (λ t. cond t (Some x) (cond (nat_eq (number y) n) (Some y) (numbered number n xs)))
                  (apart (number y) (number x) n differs here.1) ∙ ap (λ t. cond t (Some y) (numbered number n xs)) here.0)
              | inr past ↦ ap (λ t. cond t (Some y) (numbered number n (xs ++ x ∷ []))) past ∙ so
                  ∙ ap (λ o. cond (nat_eq n (number x)) (Some x) o) (sym (ap (λ t. cond t (Some y) (numbered number n xs)) past))
            ]
      ]
    where
      some_none : Some y ≡ None → ⊥
      some_none h = cc

      apart : (a b n : ℕ) → nat_eq a b ≡ false → a ≡ n → nat_eq n b ≡ false
      apart a b n h e = ap (λ k. nat_eq k b) (sym e) ∙ h

  -- who is found where those of a number are taken out
  pub numbered_without : (xs : List X) (m n : ℕ) → numbered number n (without number m xs) ≡ cond (nat_eq n m) None (numbered number n xs)
  numbered_without [] m n = both (nat_eq n m)
    where
      both : (b : Bool) → ◌≡◌ {A = Option X} None (cond b None None)
      both true = refl
      both false = refl
  numbered_without (y ∷ xs) m n =
      let so = numbered_without xs m n in
      elim (same_or_other (number y) m) [
        | inl out ↦ ap (numbered number n) (ap (λ t. cond t (without number m xs) (y ∷ without number m xs)) out.0) ∙ so ∙ elim (same_or_other (number y) n) [
          | inl here ↦ let e : nat_eq n m ≡ true = ap (λ k. nat_eq k m) (sym here.1) ∙ out.0 in rw e refl
          | inr past ↦ ap (λ o. cond (nat_eq n m) None o) (sym (ap (λ t. cond t (Some y) (numbered number n xs)) past))
        ]
        | inr stays ↦ ap (numbered number n) (ap (λ t. cond t (without number m xs) (y ∷ without number m xs)) stays) ∙ elim (same_or_other (number y) n) [
          | inl here ↦ let e : nat_eq n m ≡ false = ap (λ k. nat_eq k m) (sym here.1) ∙ stays in
              ap (λ t. cond t (Some y) (numbered number n (without number m xs))) here.0
              ∙ sym (ap (λ t. cond t None (cond (nat_eq (number y) n) (Some y) (numbered number n xs))) e
              ∙ ap (λ t. cond t (Some y) (numbered number n xs)) here.0)
          | inr past ↦ ap (λ t. cond t (Some y) (numbered number n (without number m xs))) past ∙ so
              ∙ ap (λ o. cond (nat_eq n m) None o) (sym (ap (λ t. cond t (Some y) (numbered number n xs)) past))
        ]
      ]

-- an access that is opened under the next name
abbrev pub new_access : Opened → (name : ℕ → ℕ) → (opened : ℕ) → (own : Range) → (header : Option Range) → Way → Option AccId → machine.Access
new_access access name opened own header way parent = record {
  range = abstract_range own;
  header = option_map abstract_range header;
  way = abstract_way way;
  chain = opened ∷ chain_of access name parent;
}

pub other_slots : (id other : AccId) → nat_eq id.slot other.slot ≡ true → id ≡ other
other_slots id other h = let e : id.slot ≡ other.slot = grind (arith, nat_tests) in ap (λ n. record { slot = n }) e

less_apart : (a b : ℕ) → a < b → nat_eq a b ≡ false
less_apart a b h = grind (arith, nat_tests)

pub same_test : (a : ℕ) → nat_eq a a ≡ true
same_test a = grind (arith, nat_tests)

module _ (accesses : List live.Access) (name : ℕ → ℕ) (access : Opened) (opened : ℕ) (told : RepresentAccesses accesses name access opened) where
  module _ (id : AccId) (own : Range) (header : Option Range) (way : Way) (parent : Option AccId) (new_id : IsLive id accesses
      → ⊥) (parent_lives : IsLiveIfGiven parent accesses) where
    one : live.Access
    one = record { id = id; own = own; header = header; way = way; parent = parent }

    more : List live.Access
    more = accesses ++ record { id = id; own = own; header = header; way = way; parent = parent } ∷ []

    names : ℕ → ℕ
    names = with_at name id.slot opened

    after : Opened
    after = with_at access opened (Some (new_access access name opened own header way parent))

    absent : live.access id accesses ≡ None
    absent = nothing (live.access id accesses) refl
      where
        nothing : (o : Option live.Access) → live.access id accesses ≡ o → o ≡ None
        nothing None h = refl
        nothing (Some a) h = absurd (new_id (ap is_some h))

    find : (i : AccId) → live.access i more ≡ cond (nat_eq i.slot id.slot) (Some one) (live.access i accesses)
    unfolding more one
    find i = numbered_behind slot_of accesses (record { id = id; own = own; header = header; way = way; parent = parent }) i.slot absent

    -- a live access keeps its name, and what is known under it
    kept_name : (i : AccId) (a : live.Access) → live.access i accesses ≡ Some a → names i.slot ≡ name i.slot
    unfolding names
    kept_name i a h = elim (same_or_other i.slot id.slot) [
      | inl same ↦ absurd (some_none (sym h ∙ ap (λ j. live.access j accesses) (other_slots i id same.0) ∙ absent))
      | inr differs ↦ rw differs refl
    ]
      where
        some_none : Some a ≡ None → ⊥
        some_none e = cc

    kept_access : (i : AccId) (a : live.Access) → live.access i accesses ≡ Some a → after (names i.slot) ≡ access (name i.slot)
    unfolding after
    kept_access i a h = ap after (kept_name i a h) ∙ rw (less_apart (name i.slot) opened (told.before i a h)) refl

    kept_chain : (o : Option AccId) → IsLiveIfGiven o accesses → chain_of after names o ≡ chain_of access name o
    kept_chain None lives = refl
    kept_chain (Some i) lives = let a = found (live.access i accesses) lives in ap chain_in (kept_access i a.0 a.1)

    name_here : names id.slot ≡ opened
    unfolding names
    name_here = rw (same_test id.slot) refl

    access_here : after opened ≡ Some (new_access access name opened own header way parent)
    unfolding after
    access_here = rw (same_test opened) refl

    same_told : (i : AccId) (a : live.Access) → names i.slot ≡ name i.slot → chain_of after names a.parent ≡ chain_of access name a.parent
        → abstract_access access name i a ≡ abstract_access after names i a
    same_told i a n c = rw (n, c) refl

    split : (i : AccId) (a : live.Access) → live.access i more ≡ Some a → ((i ≡ id) × (one ≡ a)) ⊎ (live.access i accesses ≡ Some a)
    split i a h = elim (same_or_other i.slot id.slot) [
      | inl same ↦ inl (other_slots i id same.0, inside (sym (ap (λ t. cond t (Some one) (live.access i accesses)) same.0) ∙ sym (find i) ∙ h))
      | inr differs ↦ inr (sym (ap (λ t. cond t (Some one) (live.access i accesses)) differs) ∙ sym (find i) ∙ h)
    ]
      where
        inside : {x y : live.Access} → Some x ≡ Some y → x ≡ y
        inside e = cc

    stays : (i : AccId) (a : live.Access) → live.access i accesses ≡ Some a → live.access i more ≡ Some a
    stays i a h = elim (same_or_other i.slot id.slot) [
      | inl same ↦ absurd (some_none (sym h ∙ ap (λ j. live.access j accesses) (other_slots i id same.0) ∙ absent))
      | inr differs ↦ find i ∙ rw differs h
    ]
      where
        some_none : Some a ≡ None → ⊥
        some_none e = cc

    stay_live : (o : Option AccId) → IsLiveIfGiven o accesses → IsLiveIfGiven o more
    stay_live None lives = tt
    stay_live (Some i) lives = let a = found (live.access i accesses) lives in ap is_some (stays i a.0 a.1)

    here : live.access id more ≡ Some one
    here = find id ∙ rw (same_test id.slot) refl

    new_told : after (names id.slot) ≡ Some (abstract_access after names id one)
    unfolding one
    new_told = ap after name_here ∙ access_here ∙ rw (name_here, kept_chain parent parent_lives) refl

    parent_of_one : one.parent ≡ parent
    unfolding one
    parent_of_one = refl

    after_old : (n : ℕ) → nat_eq n opened ≡ false → after n ≡ access n
    unfolding after
    after_old n h = rw h refl

    lent_facts : RepresentAccesses more names after (suc opened)
    lent_facts = record {
      known = λ i a h. elim (split i a h) [
        | inl new ↦ let P : AccId → live.Access → Type 0 = λ j b. after (names j.slot) ≡ Some (abstract_access after names j b) in
            subst (λ j. P j a) (sym new.0) (subst (λ b. P id b) new.1 new_told)
        | inr old ↦ kept_access i a old ∙ told.known i a old
            ∙ ap (λ t. Some t) (same_told i a (kept_name i a old) (kept_chain a.parent (told.parents i a old)))
      ];
      named = λ n a h. elim (same_or_other n opened) [
        | inl same ↦ (id, one, here, name_here ∙ sym same.1)
        | inr differs ↦ let at = told.named n a (sym (after_old n differs) ∙ h) in (at.0, at.1, stays at.0 at.1 at.2, kept_name at.0 at.1 at.2 ∙ at.3)
      ];
      own_name = λ i j a b h k e. elim (split i a h) [
        | inl new ↦ elim (split j b k) [
          | inl also ↦ new.0 ∙ sym also.0
          | inr old ↦ absurd (omega (arith, told.before j b old, sym name_here ∙ ap (λ (x : AccId). names x.slot) (sym new.0) ∙ e ∙ kept_name j b old))
        ]
        | inr old ↦ elim (split j b k) [
          | inl new ↦ absurd (omega (arith, told.before i a old, sym name_here ∙ ap (λ (x : AccId). names x.slot) (sym new.0) ∙ sym e ∙ kept_name i a old))
          | inr also ↦ told.own_name i j a b old also (sym (kept_name i a old) ∙ e ∙ kept_name j b also)
        ]
      ];
      parents = λ i a h. elim (split i a h) [
        | inl new ↦ subst (λ (x : live.Access). IsLiveIfGiven x.parent more) new.1
            (subst (λ o. IsLiveIfGiven o more) (sym parent_of_one) (stay_live parent parent_lives))
        | inr old ↦ stay_live a.parent (told.parents i a old)
      ];
      before = λ i a h. elim (split i a h) [
        | inl new ↦ omega (arith, ap (λ (x : AccId). names x.slot) new.0 ∙ name_here)
        | inr old ↦ omega (arith, told.before i a old, kept_name i a old)
      ];
    }

    pub lent_told : RepresentAccesses (accesses ++ record { id = id; own = own; header = header; way = way; parent = parent } ∷ [])
        (with_at name id.slot opened) (with_at access opened (Some (new_access access name opened own header way parent))) (suc opened)
    unfolding more names after
    lent_told = lent_facts

    pub lent_split : (i : AccId) (a : live.Access)
        → live.access i (accesses ++ record { id = id; own = own; header = header; way = way; parent = parent } ∷ []) ≡ Some a
        → ((i ≡ id) × (record { id = id; own = own; header = header; way = way; parent = parent } ≡ a)) ⊎ (live.access i accesses ≡ Some a)
    unfolding more one
    lent_split = split

    pub lent_here : live.access id (accesses ++ record { id = id; own = own; header = header; way = way; parent = parent } ∷ []) ≡ Some
        (record { id = id; own = own; header = header; way = way; parent = parent })
    unfolding more one
    lent_here = here

    pub lent_stays : (i : AccId) (a : live.Access) → live.access i accesses ≡ Some a
        → live.access i (accesses ++ record { id = id; own = own; header = header; way = way; parent = parent } ∷ []) ≡ Some a
    unfolding more
    lent_stays = stays

    pub lent_name : with_at name id.slot opened id.slot ≡ opened
    unfolding names
    lent_name = name_here

    pub lent_kept : (i : AccId) (a : live.Access) → live.access i accesses ≡ Some a → with_at name id.slot opened i.slot ≡ name i.slot
    unfolding names
    lent_kept = kept_name

  -- an access that no live one was made from is closed
  module _ (id : AccId) (one : live.Access) (is_live : live.access id accesses ≡ Some one) (childless : HasChild id accesses → ⊥) where
    less : Opened
    less = with_at access (name id.slot) None

    left : List live.Access
    left = without_access id accesses

    find_left : (i : AccId) → live.access i left ≡ cond (nat_eq i.slot id.slot) None (live.access i accesses)
    unfolding left
    find_left i = numbered_without slot_of accesses id.slot i.slot

    was : (i : AccId) (a : live.Access) → live.access i left ≡ Some a → (nat_eq i.slot id.slot ≡ false) × (live.access i accesses ≡ Some a)
    was i a h = elim (same_or_other i.slot id.slot) [
      | inl same ↦ absurd (none_some (sym (ap (λ t. cond t None (live.access i accesses)) same.0) ∙ sym (find_left i) ∙ h))
      | inr differs ↦ (differs, sym (ap (λ t. cond t None (live.access i accesses)) differs) ∙ sym (find_left i) ∙ h)
    ]
      where
        none_some : None ≡ Some a → ⊥
        none_some e = cc

    stays_live : (i : AccId) (a : live.Access) → nat_eq i.slot id.slot ≡ false → live.access i accesses ≡ Some a → live.access i left ≡ Some a
    stays_live i a differs h = find_left i ∙ rw differs h

    slots_of : (i j : AccId) → i ≡ j → nat_eq i.slot j.slot ≡ true
    slots_of i j e = let s : i.slot ≡ j.slot = ap (λ (x : AccId). x.slot) e in grind (arith, nat_tests)

    other_name : (i : AccId) (a : live.Access) → nat_eq i.slot id.slot ≡ false → live.access i accesses ≡ Some a → less (name i.slot) ≡ access (name i.slot)
    unfolding less
    other_name i a differs h = elim (same_or_other (name i.slot) (name id.slot)) [
      | inl same ↦ absurd (true_false (sym (slots_of i id (told.own_name i id a one h is_live same.1)) ∙ differs))
      | inr apart ↦ rw apart refl
    ]
      where
        true_false : true ≡ false → ⊥
        true_false e = cc

    -- a parent is another one, as the closed one has no child
    parent_left : (i : AccId) (a : live.Access) → live.access i accesses ≡ Some a → (o : Option AccId) → a.parent ≡ o → IsLiveIfGiven o accesses
        → (IsLiveIfGiven o left) × (chain_of less name o ≡ chain_of access name o)
    parent_left i a h None e lives = (tt, refl)
    parent_left i a h (Some p) e lives =
        let q = found (live.access p accesses) lives in
        elim (same_or_other p.slot id.slot) [
          | inl same ↦ absurd (childless (record { child = i; access_of = a; is_live = h; is_child = e ∙ ap (λ x. Some x) (other_slots p id same.0) }))
          | inr differs ↦ (ap is_some (stays_live p q.0 differs q.1), ap chain_in (other_name p q.0 differs q.1))
        ]

    same_told_left : (i : AccId) (a : live.Access) → chain_of less name a.parent ≡ chain_of access name a.parent
        → abstract_access access name i a ≡ abstract_access less name i a
    same_told_left i a c = rw c refl

    name_gone : (n : ℕ) (a : machine.Access) → less n ≡ Some a → (nat_eq n (name id.slot) ≡ false) × (access n ≡ Some a)
    unfolding less
    name_gone n a h = elim (same_or_other n (name id.slot)) [
      | inl same ↦ absurd (none_some (sym (ap (λ t. cond t None (access n)) same.0) ∙ h))
      | inr differs ↦ (differs, sym (ap (λ t. cond t None (access n)) differs) ∙ h)
    ]
      where
        none_some : None ≡ Some a → ⊥
        none_some e = cc

    slots_differ : (i : AccId) (n : ℕ) → nat_eq n (name id.slot) ≡ false → name i.slot ≡ n → nat_eq i.slot id.slot ≡ false
    slots_differ i n h e = elim (same_or_other i.slot id.slot) [
      | inl same ↦ absurd (clash (name i.slot) (name id.slot) n e (ap name same.1) h)
      | inr differs ↦ differs
    ]
      where
        clash : (a b n : ℕ) → a ≡ n → a ≡ b → nat_eq n b ≡ false → ⊥
        clash a b n e f h = grind (arith, nat_tests)

    closed_facts : RepresentAccesses left name less opened
    closed_facts = record {
      known = λ i a h. let w = was i a h in
          other_name i a w.0 w.1 ∙ told.known i a w.1 ∙ ap (λ t. Some t) (same_told_left i a (parent_left i a w.1 a.parent refl (told.parents i a w.1)).1);
      named = λ n a h. let g = name_gone n a h in let at = told.named n a g.1 in (at.0, at.1, stays_live at.0 at.1 (slots_differ at.0 n g.0 at.3) at.2, at.3);
      own_name = λ i j a b h k e. told.own_name i j a b (was i a h).1 (was j b k).1 e;
      parents = λ i a h. let w = was i a h in (parent_left i a w.1 a.parent refl (told.parents i a w.1)).0;
      before = λ i a h. told.before i a (was i a h).1;
    }

    pub closed_told : RepresentAccesses (without_access id accesses) name (with_at access (name id.slot) None) opened
    unfolding left less
    closed_told = closed_facts

    -- who is left, and who stays
    pub left_was : (i : AccId) (a : live.Access) → live.access i (without_access id accesses) ≡ Some a → (nat_eq i.slot id.slot ≡ false)
        × (live.access i accesses ≡ Some a)
    unfolding left
    left_was = was

    pub left_stays : (i : AccId) (a : live.Access) → nat_eq i.slot id.slot ≡ false → live.access i accesses ≡ Some a
        → live.access i (without_access id accesses) ≡ Some a
    unfolding left
    left_stays = stays_live
