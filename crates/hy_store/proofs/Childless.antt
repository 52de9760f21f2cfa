-- Whether a live access was made from another, as the program and as the machine know it.
use Rattle.std.proofs.Common.{◌≡◌, ℕ, Bool, true, false, not, nat_eq, cond, inl, inr, List, [], ◌∷◌, length, Option, Some, None, is_some, refl, sym, ap}
use Rattle.std.proofs.Common.{◌∙◌, arith}
use Rattle.std.proofs.lemmas.Bool.Decides.{nat_tests}
use Rattle.hy_access.specs.declared.access.AccId.{AccId}
use Rattle.hy_access.specs.Accesses as live
use Rattle.hy_access.specs.Accesses.{HasChild, IsLive, IsLiveIfGiven, HasAncestor, itself, above}
use Rattle.hy_object.specs.Lending.{lets_close}
use Rattle.hy_object.specs.States as machine
use Rattle.hy_object.specs.States.{State, all_below, member}
use Rattle.hy_store.specs.Opened.{RepresentAccesses, Opened, chain_in, chain_of, abstract_access}
use Rattle.hy_store.proofs.Chains.{at_head, chain_is, found, in_tail, parent_found, parent_lives, split_member, through_then}
use Rattle.hy_store.proofs.Counted.{all_below_if, some_fails}
use Rattle.hy_store.proofs.Holding.{same_or_other}
use Rattle.hy_store.proofs.Naming.{other_slots, same_test}

pub true_false : true ≡ false → ⊥
true_false h = cc

-- a list is no longer than itself
no_loop : (n : ℕ) (xs ys : List ℕ) → xs ≡ n ∷ ys → xs ≡ ys → ⊥
no_loop n xs ys h e = omega (arith, ap length (sym e ∙ h))

module _ (accesses : List live.Access) (name : ℕ → ℕ) (access : Opened) (opened : ℕ) (told : RepresentAccesses accesses name access opened) where
  -- each name in a chain is that of a live access
  pub named_in : (names : List ℕ) (o : Option AccId) (n : ℕ) → IsLiveIfGiven o accesses → chain_of access name o ≡ names → member n names ≡ true
      → (id : AccId) × (one : live.Access) × (live.access id accesses ≡ Some one) × (name id.slot ≡ n)
  named_in [] o n lives is m = absurd (cc)
  named_in (first ∷ names) None n lives is m = absurd (cc)
  named_in (first ∷ names) (Some id) n lives is m =
      let one = found (live.access id accesses) lives in
      let parts : name id.slot ∷ chain_of access name one.0.parent ≡ first ∷ names = sym (chain_is accesses name access opened told id one.0 one.1) ∙ is in
      let here : name id.slot ≡ first = cc in
      let rest : chain_of access name one.0.parent ≡ names = cc in
      elim (split_member n first names m) [
        | inl e ↦ (id, one.0, one.1, here ∙ sym e)
        | inr e ↦ named_in names one.0.parent n (told.parents id one.0 one.1) rest e
      ]

  -- an access that leads to another one has an ancestor that is a child of it
  child_of : (from to : AccId) → HasAncestor accesses from to → IsLive from accesses → nat_eq from.slot to.slot ≡ false → HasChild to accesses
  child_of from to (itself _) lives differs = absurd (true_false (sym (same_test from.slot) ∙ differs))
  child_of from to (above _ parent _ is rest) lives differs =
      let one = found (live.access from accesses) lives in
      let p = parent_found accesses name access opened told from parent one.0 one.1 is in
      elim (same_or_other parent.slot to.slot) [
        | inl same ↦ record { child = from; access_of = one.0; is_live = one.1; is_child = p ∙ ap (λ i. Some i) (other_slots parent to same.0) }
        | inr apart ↦ child_of parent to rest (parent_lives accesses name access opened told from parent one.0 one.1 p) apart
      ]

  -- what the access of each name says of the closing of another
  lets_if : (this : ℕ) → ((id : AccId) (one : live.Access) → live.access id accesses ≡ Some one → nat_eq (name id.slot) this ≡ false
      → member this (chain_of access name (Some id)) ≡ true → ⊥) → (n : ℕ) (a : Option machine.Access) → access n ≡ a → lets_close a n this ≡ true
  lets_if this never n None h = refl
  lets_if this never n (Some a) h =
      let at = told.named n a h in
      elim (same_or_other n this) [
        | inl same ↦ ap (λ t. cond t true (not (member this a.chain))) same.0
        | inr differs ↦
            let chain : chain_of access name (Some at.0) ≡ a.chain = chain_at (access (name at.0.slot)) a (ap access at.3 ∙ h) in
            ap (λ t. cond t true (not (member this a.chain))) differs
            ∙ not_member (member this a.chain) (λ m. never at.0 at.1 at.2 (ap (λ k. nat_eq k this) at.3 ∙ differs) (ap (member this) chain ∙ m))
      ]
    where
      chain_at : (o : Option machine.Access) (a : machine.Access) → o ≡ Some a → chain_in o ≡ a.chain
      chain_at o a e = rw e refl

      not_member : (b : Bool) → (b ≡ true → ⊥) → not b ≡ true
      not_member true none = absurd (none refl)
      not_member false none = refl

  -- no live access has that name
  pub none_closes : (this : ℕ) → ((id : AccId) (one : live.Access) → live.access id accesses ≡ Some one → name id.slot ≡ this → ⊥)
      → all_below opened (λ n. lets_close (access n) n this) ≡ true
  none_closes this absent = all_below_if opened (λ n. lets_close (access n) n this) (λ n below. lets_if this
      (λ id one h differs m. let at = named_in (chain_of access name (Some id)) (Some id) this (lives id one h) refl m in
      absent at.0 at.1 at.2 at.3) n (access n) refl)
    where
      lives : (id : AccId) (one : live.Access) → live.access id accesses ≡ Some one → IsLive id accesses
      lives id one h = ap is_some h

  module _ (id : AccId) (one : live.Access) (there : live.access id accesses ≡ Some one) where
    pub childless_closes : (HasChild id accesses → ⊥) → all_below opened (λ n. lets_close (access n) n (name id.slot)) ≡ true
    childless_closes none = all_below_if opened (λ n. lets_close (access n) n (name id.slot)) (λ n below. lets_if (name id.slot)
        (λ other a h differs m.
        none (child_of other id (through_then accesses name access opened told (Some other) id one (ap is_some h) there m) (ap is_some h)
        (slots_differ other differs)))
        n (access n) refl)
      where
        slots_differ : (other : AccId) → nat_eq (name other.slot) (name id.slot) ≡ false → nat_eq other.slot id.slot ≡ false
        slots_differ other differs = elim (same_or_other other.slot id.slot) [
          | inl same ↦ absurd (clash (name other.slot) (name id.slot) (ap name same.1) differs)
          | inr apart ↦ apart
        ]
          where
            clash : (a b : ℕ) → a ≡ b → nat_eq a b ≡ false → ⊥
            clash a b e h = grind (arith, nat_tests)

    pub child_keeps : HasChild id accesses → all_below opened (λ n. lets_close (access n) n (name id.slot)) ≡ false
    child_keeps has =
        some_fails opened (λ n. lets_close (access n) n (name id.slot)) (name has.child.slot) (told.before has.child has.access_of has.is_live)
        (ap (λ a. lets_close a (name has.child.slot) (name id.slot)) (told.known has.child has.access_of has.is_live)
        ∙ ap (λ t. cond t true (not (member (name id.slot) (abstract_access access name has.child has.access_of).chain))) other
        ∙ ap not in_chain)
      where
        chain : chain_of access name (Some has.child) ≡ name has.child.slot ∷ chain_of access name (Some id)
        chain = chain_is accesses name access opened told has.child has.access_of has.is_live
            ∙ ap (λ o. name has.child.slot ∷ chain_of access name o) has.is_child

        other : nat_eq (name has.child.slot) (name id.slot) ≡ false
        other = elim (same_or_other (name has.child.slot) (name id.slot)) [
          | inl same ↦ absurd (no_loop (name has.child.slot) (chain_of access name (Some has.child)) (chain_of access name (Some id)) chain
              (ap (λ i. chain_of access name (Some i)) (told.own_name has.child id has.access_of one has.is_live there same.1)))
          | inr differs ↦ differs
        ]

        in_chain : member (name id.slot) (name has.child.slot ∷ chain_of access name has.access_of.parent) ≡ true
        in_chain = in_tail (name id.slot) (name has.child.slot) (chain_of access name has.access_of.parent)
            (ap (λ o. member (name id.slot) (chain_of access name o)) has.is_child
            ∙ ap (member (name id.slot)) (chain_is accesses name access opened told id one there)
            ∙ at_head (name id.slot) (name id.slot) (chain_of access name one.parent) refl)
