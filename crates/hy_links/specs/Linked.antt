-- Records kept in slots that are linked in the order in which they were put in.
use Rattle.std.specs.Prelude.{◌≡◌, ◌≢◌, ◌<◌, ◌+◌, ℕ, List, [], Option, Some, None, length}
use Rattle.slab.specs.Slab.{Slab, get, slab_len, ContainsKey}
use Rattle.hy_links.specs.Chains.{Chain, chain_from, onto, times, AreApart, PutsInFront, Unlinks}
use Rattle.hy_links.specs.Keyed.{gathered}

-- what is read from a slot: its neighbours, and the record that it keeps, whose number is the slot's
pub record Layout (S X : Type 0) : Type 0 where
  pub before : S → Option ℕ
  pub after : S → Option ℕ
  pub held : ℕ → S → X
  pub number : X → ℕ
  pub in_place : (i : ℕ) (slot : S) → number (held i slot) ≡ i

-- what is found in a slot, if it is in use
abbrev pub look : {S Y : Type 0} → (S → Option Y) → Option S → Option Y
look find None = None
look find (Some slot) = find slot

-- a slot that is in use after a change
abbrev pub with_change : {S : Type 0} → (S → S) → Option S → Option S
with_change change None = None
with_change change (Some slot) = Some (change slot)

-- this is done to one slot, if there is one and it is in use, and to no other
pub record Changes {S : Type 0} (old new : Slab S) (at : Option ℕ) (change : S → S) : Type 0 where
  pub here : (i : ℕ) → at ≡ Some i → get new i ≡ with_change change (get old i)
  pub elsewhere : (i : ℕ) → at ≢ Some i → get new i ≡ get old i
  pub as_many : slab_len new ≡ slab_len old

module _ {S X : Type 0} (layout : Layout S X) where
  abbrev pub before_at : Slab S → ℕ → Option ℕ
  before_at slots i = look layout.before (get slots i)

  abbrev pub after_at : Slab S → ℕ → Option ℕ
  after_at slots i = look layout.after (get slots i)

  abbrev pub held_at : Slab S → ℕ → Option X
  held_at slots i = look (λ slot. Some (layout.held i slot)) (get slots i)

  -- the slots, the one of the newest record first
  abbrev pub newest_first : Slab S → Option ℕ → List ℕ
  newest_first slots newest = chain_from (before_at slots) (slab_len slots) newest

  -- the records in the order in which they were put in
  abbrev pub listed : Slab S → Option ℕ → List X
  listed slots newest = gathered (held_at slots) (onto (newest_first slots newest) [])

  -- every slot that is in use stands once on the chain that begins at the newest
  pub record AreLinked (slots : Slab S) (newest : Option ℕ) : Type 0 where
    pub chain : Chain (before_at slots) (after_at slots) None newest (newest_first slots newest)
    pub apart : AreApart (newest_first slots newest)
    pub in_use : (i : ℕ) → 0 < times i (newest_first slots newest) → ContainsKey slots i
    pub all : length (newest_first slots newest) ≡ slab_len slots

  -- a slot is filled and put after the newest
  pub record IsPushed (old new : Slab S) (newest : Option ℕ) (index : ℕ) (record_put : X) : Type 0 where
    pub was_free : get old index ≡ None
    pub puts : PutsInFront (before_at old) (after_at old) (before_at new) (after_at new) newest index
    pub holds : held_at new index ≡ Some record_put
    pub others : (i : ℕ) → i ≢ index → held_at new i ≡ held_at old i
    pub one_more : slab_len new ≡ slab_len old + 1

  -- a slot is given back, and its neighbours are joined
  pub record IsUnlinked (old new : Slab S) (index : ℕ) : Type 0 where
    pub unlinks : Unlinks (before_at old) (after_at old) (before_at new) (after_at new) index
    pub others : (i : ℕ) → i ≢ index → held_at new i ≡ held_at old i
    pub one_less : slab_len new + 1 ≡ slab_len old
