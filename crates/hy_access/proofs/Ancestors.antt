-- What it means that a walk over the accesses is clear.
use Rattle.std.proofs.Common.{◌≡◌, ◌≢◌, ◌↔◌, ◌<◌, ℕ, List, [], ◌∷◌, Option, Some, None, IsSome, refl, sym, ap, subst, ◌∙◌, inl, inr, arith}
use Rattle.std.proofs.lemmas.Bool.{cases_eq}
use Rattle.slab.specs.Slab.{Slab, get}
use Rattle.hy_links.specs.Chains.{head, times, AreApart}
use Rattle.hy_links.specs.Linked.{look, held_at, newest_first, listed}
use Rattle.hy_links.proofs.Chains.{begins, head-times, times-same, times-other, times-le}
use Rattle.hy_links.proofs.Linked.{cases_some, on_chain, found_there}
use Rattle.hy_access.specs.declared.access.AccId.{AccId}
use Rattle.hy_access.specs.declared.access.Range.{Range}
use Rattle.hy_access.specs.declared.access.Way.{Way}
use Rattle.hy_access.specs.declared.access.Way.TheVariants.{Read, Write}
use Rattle.hy_access.specs.declared.slots.Slot.{Slot}
use Rattle.hy_access.specs.Accesses.{Access, access, IsLiveIfGiven, MeetsAccess, parent_of, HasAncestor, itself, above, IsThrough, MayRead, HasChild}
use Rattle.hy_access.specs.Forest.{order, slot_of_id, parent_at, child_at, older_at, younger_at, children, Behind, IsForest}
use Rattle.hy_access.specs.Clear.{ForbidsIf, ForbidsAt, Clear}
use Rattle.hy_access.proofs.Children.{parent_there, has_parent, is_child, times-children}

-- from a slot by way of parents to one of these
pub data Up (parent : ℕ → Option ℕ) : ℕ → ℕ → Type 0 where
  here : (i : ℕ) → Up parent i i
  over : (i up to : ℕ) → parent i ≡ Some up → Up parent up to → Up parent i to

abbrev pub From : (ℕ → Option ℕ) → Option ℕ → ℕ → Type 0
From parent None to = ⊥
From parent (Some i) to = Up parent i to

module _ (parent : ℕ → Option ℕ) (Stands : ℕ → Type 0) where
  climb : (o : Option ℕ) (i to : ℕ) → parent i ≡ o → From parent o to → From parent (Some i) to
  climb None i to is from = absurd from
  climb (Some up) i to is from = over i up to is from

  descend : (i to : ℕ) → Up parent i to → i ≢ to → From parent (parent i) to
  descend i to (here _) differs = absurd (differs refl)
  descend i to (over _ up _ is from) differs = rw is from

  -- who leads up stays among the slots, as parents are after their children
  stays_there : (xs : List ℕ) → Behind parent xs → (i to : ℕ) → Up parent i to → 0 < times i xs → 0 < times to xs
  stays_there xs behind i to (here _) there = there
  stays_there xs behind i to (over _ up _ is from) there = stays_there xs behind up to from (parent_there parent xs behind i up there is)

  stays_from : (xs : List ℕ) → Behind parent xs → (o : Option ℕ) (to : ℕ) → From parent o to → ((i : ℕ) → o ≡ Some i → 0 < times i xs) → 0 < times to xs
  stays_from xs behind None to from there = absurd from
  stays_from xs behind (Some i) to from there = stays_there xs behind i to from (there i refl)

  pub clear_so : (xs : List ℕ) (up : Option ℕ) → AreApart xs → Behind parent xs → ((i : ℕ) → up ≡ Some i → 0 < times i xs) → Clear Stands parent up xs
      → (i : ℕ) → 0 < times i xs → Stands i → From parent up i
  clear_so [] up apart behind inside clear i there stands = absurd (omega arith)
  clear_so (j ∷ xs) up apart behind inside clear i there stands =
      let rest : AreApart xs = λ k. omega (arith, apart k, times-le k j xs) in
      elim (cases_some up j) [
        | inl is ↦ rw is (elim (cases_eq j i) [
          | inl same ↦ itself_from j i same
          | inr differs ↦
              climb (parent j) j i refl (clear_so xs (parent j) rest behind.1 behind.0 (clear.0 is) i (omega (arith, there, times-other i j xs differs))
              stands)
        ])
        | inr away ↦
            let after = clear.1 away in
            elim (cases_eq j i) [
              | inl same ↦ absurd (after.0 (subst Stands (sym same) stands))
              | inr differs ↦
                  clear_so xs up rest behind.1 (λ k at. further k at (inside k at) away) after.1 i (omega (arith, there, times-other i j xs differs)) stands
            ]
      ]
    where
      itself_from : (j i : ℕ) → j ≡ i → From parent (Some j) i
      itself_from j i same = let P : ℕ → Type 0 = Up parent j in subst P same (here j)

      further : (k : ℕ) → up ≡ Some k → 0 < times k (j ∷ xs) → up ≢ Some j → 0 < times k xs
      further k at member away =
          let differs : j ≢ k = λ same. away (at ∙ ap (λ n. Some n) (sym same)) in
          omega (arith, member, times-other k j xs differs)

  pub clear_if : (xs : List ℕ) (up : Option ℕ) → AreApart xs → Behind parent xs → ((i : ℕ) → up ≡ Some i → 0 < times i xs)
      → ((i : ℕ) → 0 < times i xs → Stands i → From parent up i) → Clear Stands parent up xs
  clear_if [] up apart behind inside all = tt
  clear_if (j ∷ xs) up apart behind inside all =
      let rest : AreApart xs = λ k. omega (arith, apart k, times-le k j xs) in
      let other : (i : ℕ) → 0 < times i xs → j ≢ i = λ i there same. omega (arith, there, apart j, times-same j xs, ap (λ k. times k xs) same) in (
        λ is. clear_if xs (parent j) rest behind.1 behind.0 (λ i there stands. next i is (other i there)
            (all i (omega (arith, there, times-le i j xs)) stands)),
        λ away. (
          λ stands. let back = stays_from xs behind.1 up j (all j (omega (arith, times-same j xs)) stands) (λ k at. further k at (inside k at) away) in
              other j back refl,
          clear_if xs up rest behind.1 (λ k at. further k at (inside k at) away) (λ i there stands. all i (omega (arith, there, times-le i j xs)) stands),
        ),
      )
    where
      next : (i : ℕ) → up ≡ Some j → j ≢ i → From parent up i → From parent (parent j) i
      next i is differs from = let P : Option ℕ → Type 0 = λ o. From parent o i in descend j i (subst P is from) differs

      further : (k : ℕ) → up ≡ Some k → 0 < times k (j ∷ xs) → up ≢ Some j → 0 < times k xs
      further k at member away =
          let differs : j ≢ k = λ same. away (at ∙ ap (λ n. Some n) (sym same)) in
          omega (arith, member, times-other k j xs differs)

module _ (slots : Slab Slot) (newest : Option ℕ) (forest : IsForest slots newest) where
  -- the access in a slot, and its parent
  found_parent : (i : ℕ) (one : Option Slot) (a : Access) → look (λ slot. Some (order.held i slot)) one ≡ Some a
      → look (λ slot. slot_of_id slot.parent) one ≡ slot_of_id a.parent
  found_parent i None a is = absurd (cc)
  found_parent i (Some slot) a is = let same : order.held i slot ≡ a = cc in ap (λ b. slot_of_id b.parent) same

  forbids_read : (i : ℕ) (range : Range) (one : Option Slot) (a : Access) → look (λ slot. Some (order.held i slot)) one ≡ Some a → (a.way ≡ Write)
      × MeetsAccess range a → ForbidsIf Read range one
  forbids_read i range None a is meets = absurd (cc)
  forbids_read i range (Some slot) a is meets =
      let same : order.held i slot ≡ a = cc in
      let P : Access → Type 0 = λ b. (b.way ≡ Write) × MeetsAccess range b in
      subst P (sym same) meets

  forbids_write : (i : ℕ) (range : Range) (one : Option Slot) (a : Access) → look (λ slot. Some (order.held i slot)) one ≡ Some a → MeetsAccess range a
      → ForbidsIf Write range one
  forbids_write i range None a is meets = absurd (cc)
  forbids_write i range (Some slot) a is meets =
      let same : order.held i slot ≡ a = cc in
      let P : Access → Type 0 = MeetsAccess range in
      subst P (sym same) meets

  -- what a live id names
  is_held : (id : AccId) (a : Access) → access id (listed order slots newest) ≡ Some a → (0 < times id.slot (newest_first order slots newest))
      × (held_at order slots id.slot ≡ Some a)
  is_held id a is =
      let some : IsSome (access id (listed order slots newest)) = rw is refl in
      let there = on_chain order slots newest forest.linked id.slot some in
      (there, sym (found_there order slots newest forest.linked id.slot there) ∙ is)

  parent_is : (id parent : AccId) (o : Option Access) → access id (listed order slots newest) ≡ o → parent_of (listed order slots newest) id ≡ Some parent
      → parent_at slots id.slot ≡ Some parent.slot
  parent_is id parent None is of = absurd (cc (sym (ap (look (λ (b : Access). b.parent)) is) ∙ of))
  parent_is id parent (Some a) is of =
      found_parent id.slot (get slots id.slot) a (is_held id a is).1 ∙ ap slot_of_id (sym (ap (look (λ (b : Access). b.parent)) is) ∙ of)

  leads_up : (id to : AccId) → HasAncestor (listed order slots newest) id to → Up (parent_at slots) id.slot to.slot
  leads_up id to (itself _) = here id.slot
  leads_up id to (above _ parent _ is leads) =
      over id.slot parent.slot to.slot (parent_is id parent (access id (listed order slots newest)) refl is) (leads_up parent to leads)

  pub id_back : (o : Option AccId) (p : ℕ) → slot_of_id o ≡ Some p → o ≡ Some (record { slot = p })
  id_back None p is = absurd (cc)
  id_back (Some id) p is = let same : id.slot ≡ p = cc in ap (λ k. Some (record { slot = k })) same

  held_parent : (i : ℕ) (one : Option Slot) (p : ℕ) → look (λ slot. slot_of_id slot.parent) one ≡ Some p
      → look (λ (a : Access). a.parent) (look (λ slot. Some (order.held i slot)) one) ≡ Some (record { slot = p })
  held_parent i None p is = absurd (cc)
  held_parent i (Some slot) p is = id_back slot.parent p is

  parent_back : (i p : ℕ) → 0 < times i (newest_first order slots newest) → parent_at slots i ≡ Some p
      → parent_of (listed order slots newest) (record { slot = i }) ≡ Some (record { slot = p })
  parent_back i p there is =
      ap (look (λ (a : Access). a.parent)) (found_there order slots newest forest.linked i there) ∙ held_parent i (get slots i) p is

  up_leads : (i to : ℕ) → 0 < times i (newest_first order slots newest) → Up (parent_at slots) i to
      → HasAncestor (listed order slots newest) (record { slot = i }) (record { slot = to })
  up_leads i to there (here _) = itself (record { slot = i })
  up_leads i to there (over _ p _ is up) =
      above (record { slot = i }) (record { slot = p }) (record { slot = to }) (parent_back i p there is)
      (up_leads p to (parent_there (parent_at slots) (newest_first order slots newest) forest.behind i p there is) up)

  through_from : (through : Option AccId) (id : AccId) → IsThrough (listed order slots newest) through id → From (parent_at slots) (slot_of_id through) id.slot
  through_from None id leads = leads
  through_from (Some one) id leads = leads_up one id leads

  from_through : (through : Option AccId) (i : ℕ) → ((n : ℕ) → slot_of_id through ≡ Some n → 0 < times n (newest_first order slots newest))
      → From (parent_at slots) (slot_of_id through) i → IsThrough (listed order slots newest) through (record { slot = i })
  from_through None i live up = up
  from_through (Some one) i live up = up_leads one.slot i (live one.slot refl) up

  pub given_there : (given : Option AccId) → IsLiveIfGiven given (listed order slots newest) → (n : ℕ) → slot_of_id given ≡ Some n
      → 0 < times n (newest_first order slots newest)
  given_there None live n is = absurd (cc)
  given_there (Some id) live n is = let same : id.slot ≡ n = cc in rw (sym same) (on_chain order slots newest forest.linked id.slot live)

  held_once : (i : ℕ) (slot : Slot) → 0 < times i (newest_first order slots newest) → get slots i ≡ Some slot
      → access (record { slot = i }) (listed order slots newest) ≡ Some (order.held i slot)
  held_once i slot there is = found_there order slots newest forest.linked i there ∙ ap (look (λ one. Some (order.held i one))) is

  read_all : (range : Range) (through : Option AccId) → MayRead (listed order slots newest) range through → (i : ℕ)
      → 0 < times i (newest_first order slots newest) → (one : Option Slot) → get slots i ≡ one → ForbidsIf Read range one
      → From (parent_at slots) (slot_of_id through) i
  read_all range through may i there None is stands = absurd stands
  read_all range through may i there (Some slot) is stands =
      through_from through (record { slot = i }) (may (record { slot = i }) (order.held i slot) (held_once i slot there is) stands.0 stands.1)

  write_all : (range : Range) (through : Option AccId) → ((id : AccId) (one : Access) → access id (listed order slots newest) ≡ Some one
      → MeetsAccess range one → IsThrough (listed order slots newest) through id) → (i : ℕ) → 0 < times i (newest_first order slots newest)
      → (one : Option Slot) → get slots i ≡ one → ForbidsIf Write range one → From (parent_at slots) (slot_of_id through) i
  write_all range through may i there None is stands = absurd stands
  write_all range through may i there (Some slot) is stands =
      through_from through (record { slot = i }) (may (record { slot = i }) (order.held i slot) (held_once i slot there is) stands)

  module _ (range : Range) (through : Option AccId) (live : IsLiveIfGiven through (listed order slots newest)) where
    back : (way : Way) → Clear (ForbidsAt slots way range) (parent_at slots) (slot_of_id through) (newest_first order slots newest)
        → (id : AccId) (one : Access) → access id (listed order slots newest) ≡ Some one → ForbidsAt slots way range id.slot
        → IsThrough (listed order slots newest) through id
    back way clear id one is stands =
        from_through through id.slot (given_there through live)
        (clear_so (parent_at slots) (ForbidsAt slots way range) (newest_first order slots newest) (slot_of_id through) forest.linked.apart forest.behind
        (given_there through live) clear id.slot (is_held id one is).0 stands)

    pub read_so : Clear (ForbidsAt slots Read range) (parent_at slots) (slot_of_id through) (newest_first order slots newest) ↔ MayRead
        (listed order slots newest) range through
    read_so = (
      λ clear id one is way meets. back Read clear id one is (forbids_read id.slot range (get slots id.slot) one (is_held id one is).1 (way, meets)),
      λ may. clear_if (parent_at slots) (ForbidsAt slots Read range) (newest_first order slots newest) (slot_of_id through) forest.linked.apart
          forest.behind (given_there through live)
          (λ i there stands. read_all range through may i there (get slots i) refl stands),
    )

    pub write_so : Clear (ForbidsAt slots Write range) (parent_at slots) (slot_of_id through) (newest_first order slots newest) ↔
        ((id : AccId) (one : Access) → access id (listed order slots newest) ≡ Some one → MeetsAccess range one
        → IsThrough (listed order slots newest) through id)
    write_so = (
      λ clear id one is meets. back Write clear id one is (forbids_write id.slot range (get slots id.slot) one (is_held id one is).1 meets),
      λ may. clear_if (parent_at slots) (ForbidsAt slots Write range) (newest_first order slots newest) (slot_of_id through) forest.linked.apart
          forest.behind (given_there through live)
          (λ i there stands. write_all range through may i there (get slots i) refl stands),
    )

  child_of : (i n : ℕ) (one : Option Slot) → get slots i ≡ one → IsSome one → 0 < times i (newest_first order slots newest) → parent_at slots i ≡ Some n
      → HasChild (record { slot = n }) (listed order slots newest)
  child_of i n None is some there mother = absurd (cc)
  child_of i n (Some slot) is some there mother = record {
    child = record { slot = i };
    access_of = order.held i slot;
    is_live = held_once i slot there is;
    is_child = id_back slot.parent n (sym (ap (look (λ s. slot_of_id s.parent)) is) ∙ mother);
  }

  -- one of the slots that has this parent is a child in the list
  pub child_in_list : (i n : ℕ) → 0 < times i (newest_first order slots newest) → parent_at slots i ≡ Some n
      → HasChild (record { slot = n }) (listed order slots newest)
  child_in_list i n there mother = child_of i n (get slots i) refl (forest.linked.in_use i there) there mother

  pub youngest_is_child : (n i : ℕ) → 0 < times n (newest_first order slots newest) → child_at slots n ≡ Some i
      → HasChild (record { slot = n }) (listed order slots newest)
  youngest_is_child n i there is =
      let family = children (parent_at slots) n (newest_first order slots newest) in
      let member = head-times i family (sym (begins (older_at slots) (younger_at slots) None (child_at slots n) family (forest.siblings n there)) ∙ is) in
      child_in_list i n (omega (arith, member, times-children (parent_at slots) n i (newest_first order slots newest)))
      (has_parent (parent_at slots) n i (newest_first order slots newest) member)

  none_on : (i : ℕ) (xs : List ℕ) → head xs ≡ None → 0 < times i xs → ⊥
  none_on i [] none there = omega arith
  none_on i (j ∷ xs) none there = cc

  pub no_youngest : (id : AccId) → 0 < times id.slot (newest_first order slots newest) → child_at slots id.slot ≡ None
      → HasChild id (listed order slots newest) → ⊥
  no_youngest id there none has =
      let family = children (parent_at slots) id.slot (newest_first order slots newest) in
      let held = is_held has.child has.access_of has.is_live in
      let mother : parent_at slots has.child.slot ≡ Some id.slot = found_parent has.child.slot (get slots has.child.slot) has.access_of held.1
      ∙ ap slot_of_id has.is_child in
      none_on has.child.slot family (sym (begins (older_at slots) (younger_at slots) None (child_at slots id.slot) family (forest.siblings id.slot there))
      ∙ none)
      (is_child (parent_at slots) id.slot has.child.slot (newest_first order slots newest) held.0 mother)
