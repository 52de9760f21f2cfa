-- The ancestors of a live access, as the program and as the machine know them.
use Rattle.std.proofs.Common.{◌≡◌, ℕ, Bool, true, false, ◌&&◌, nat_eq, cond, ◌⊎◌, inl, inr, List, [], ◌∷◌, Option, Some, None, IsSome, IsSomeAnd, refl, sym}
use Rattle.std.proofs.Common.{ap, subst, ◌∙◌, arith}
use Rattle.std.specs.Bool.{Decides}
use Rattle.std.proofs.lemmas.Bool.Decides.{nat_tests}
use Rattle.hy_access.specs.declared.access.AccId.{AccId}
use Rattle.hy_access.specs.declared.access.Range.{Range}
use Rattle.hy_access.specs.declared.access.Way.{Way}
use Rattle.hy_access.specs.declared.access.Way.TheVariants as kept
use Rattle.hy_access.specs.Accesses as live
use Rattle.hy_access.specs.Accesses.{IsLive, IsLiveIfGiven, HasAncestor, itself, above, parent_of, IsThrough, MayRead, MayWrite, MeetsAccess, Writes}
use Rattle.hy_object.specs.States as machine
use Rattle.hy_object.specs.States.{member, all_below, State}
use Rattle.hy_object.specs.Checks.{lets_read, lets_write, writes}
use Rattle.hy_store.specs.Opened.{Opened, RepresentAccesses, abstract_access, abstract_reach, abstract_way, chain_of, chain_in, way_of, way_in}
use Rattle.hy_store.proofs.Counted.{both, joined, each_below, all_below_if, touches, touches_then, touches_if}

pub found : {A : Type 0} (o : Option A) → IsSome o → (a : A) × (o ≡ Some a)
found None h = absurd (cc)
found (Some a) h = (a, refl)

same_or_not : (m n : ℕ) → ((nat_eq m n ≡ true) × (m ≡ n)) ⊎ (nat_eq m n ≡ false)
same_or_not m n = grind (arith, nat_tests)

pub at_head : (n m : ℕ) (ms : List ℕ) → n ≡ m → member n (m ∷ ms) ≡ true
at_head n m ms h = grind (arith, nat_tests)

pub in_tail : (n m : ℕ) (ms : List ℕ) → member n ms ≡ true → member n (m ∷ ms) ≡ true
in_tail n m ms h = elim (same_or_not n m) [ inl e ↦ at_head n m ms e.1 | inr e ↦ rw e h ]

pub split_member : (n m : ℕ) (ms : List ℕ) → member n (m ∷ ms) ≡ true → (n ≡ m) ⊎ (member n ms ≡ true)
split_member n m ms h = elim (same_or_not n m) [ inl e ↦ inl e.1 | inr e ↦ inr (rw e at h) ]

module _ (accesses : List live.Access) (name : ℕ → ℕ) (access : Opened) (opened : ℕ) (told : RepresentAccesses accesses name access opened) where
  pub chain_is : (id : AccId) (one : live.Access) → live.access id accesses ≡ Some one → chain_of access name (Some id) ≡ name id.slot ∷
      chain_of access name one.parent
  chain_is id one h = ap chain_in (told.known id one h)

  pub way_is : (id : AccId) (one : live.Access) → live.access id accesses ≡ Some one → way_of access name (Some id) ≡ abstract_way one.way
  way_is id one h = ap way_in (told.known id one h)

  pub parent_found : (id parent : AccId) (one : live.Access) → live.access id accesses ≡ Some one → parent_of accesses id ≡ Some parent
      → one.parent ≡ Some parent
  parent_found id parent one h p = rw h at p

  pub parent_lives : (id parent : AccId) (one : live.Access) → live.access id accesses ≡ Some one → one.parent ≡ Some parent → IsLive parent accesses
  parent_lives id parent one h p = rw p at (told.parents id one h)

  pub leads_in : (id to : AccId) → HasAncestor accesses id to → IsLive id accesses → member (name to.slot) (chain_of access name (Some id)) ≡ true
  leads_in id to (itself _) lives =
      let one = found (live.access id accesses) lives in
      rw (chain_is id one.0 one.1) (at_head (name id.slot) (name id.slot) (chain_of access name one.0.parent) refl)
  leads_in id to (above _ parent _ is rest) lives =
      let one = found (live.access id accesses) lives in
      let p = parent_found id parent one.0 one.1 is in
      let so = leads_in parent to rest (parent_lives id parent one.0 one.1 p) in
      rw (chain_is id one.0 one.1, p) (in_tail (name to.slot) (name id.slot) (chain_of access name (Some parent)) so)

  leads_from : (names : List ℕ) (o : Option AccId) (to : AccId) (b : live.Access) → IsLiveIfGiven o accesses → live.access to accesses ≡ Some b
      → chain_of access name o ≡ names → member (name to.slot) names ≡ true → IsThrough accesses o to
  leads_from [] o to b lives there is m = absurd (cc)
  leads_from (n ∷ names) None to b lives there is m = absurd (cc)
  leads_from (n ∷ names) (Some id) to b lives there is m =
      let one = found (live.access id accesses) lives in
      let parts : name id.slot ∷ chain_of access name one.0.parent ≡ n ∷ names = sym (chain_is id one.0 one.1) ∙ is in
      let first : name id.slot ≡ n = cc in
      let rest : chain_of access name one.0.parent ≡ names = cc in
      elim (split_member (name to.slot) n names m) [
        | inl e ↦ let same : id ≡ to = told.own_name id to one.0 b one.1 there (first ∙ sym e) in
            let P : AccId → Type 0 = λ other. HasAncestor accesses id other in subst P same (itself id)
        | inr e ↦ up id to one.0 one.1 one.0.parent refl (leads_from names one.0.parent to b (told.parents id one.0 one.1) there rest e)
      ]
    where
      up : (id to : AccId) (one : live.Access) → live.access id accesses ≡ Some one → (o : Option AccId) → one.parent ≡ o → IsThrough accesses o to
          → HasAncestor accesses id to
      up id to one h None p t = absurd t
      up id to one h (Some parent) p t = above id parent to (rw h p) t

  pub through_if : (o : Option AccId) (to : AccId) → IsLiveIfGiven o accesses → IsThrough accesses o to → member (name to.slot) (chain_of access name o) ≡ true
  through_if None to lives t = absurd t
  through_if (Some id) to lives t = leads_in id to t lives

  pub through_then : (o : Option AccId) (to : AccId) (b : live.Access) → IsLiveIfGiven o accesses → live.access to accesses ≡ Some b
      → member (name to.slot) (chain_of access name o) ≡ true → IsThrough accesses o to
  through_then o to b lives there m = leads_from (chain_of access name o) o to b lives there refl m

  -- What a test of each name that was opened says of the live accesses, where it asks of those that conflict to be
  -- among the ones that memory is used through.
  module _ (o : Option AccId) (lives : IsLiveIfGiven o accesses) (lets : Option machine.Access → ℕ → Bool) (Forbids : live.Access
      → Type 0) (forbids : live.Access → Bool)
      (decides : (one : live.Access) → Decides (forbids one) (Forbids one)) (none : (n : ℕ) → lets None n ≡ true)
      (some : (n : ℕ) (id : AccId) (one : live.Access)
      → lets (Some (abstract_access access name id one)) n ≡ cond (forbids one) (member n (chain_of access name o)) true) where
    forbidden_in : (n : ℕ) (b : Bool) → b ≡ true → cond b (member n (chain_of access name o)) true ≡ true → member n (chain_of access name o) ≡ true
    forbidden_in n b h e = rw h at e

    all_then : all_below opened (λ n. lets (access n) n) ≡ true → (id : AccId) (one : live.Access) → live.access id accesses ≡ Some one → Forbids one
        → IsThrough accesses o id
    all_then all id one h stands =
        let each = each_below opened (λ n. lets (access n) n) all (name id.slot) (told.before id one h) in
        let at : lets (Some (abstract_access access name id one)) (name id.slot) ≡ true = ap (λ a. lets a (name id.slot)) (sym (told.known id one h)) ∙ each in
        through_then o id one lives h (forbidden_in (name id.slot) (forbids one) ((decides one).1 stands) (sym (some (name id.slot) id one) ∙ at))

    lets_one : (n : ℕ) (id : AccId) (one : live.Access) → live.access id accesses ≡ Some one → name id.slot ≡ n → (b : Bool) → forbids one ≡ b
        → (Forbids one → IsThrough accesses o id) → cond b (member n (chain_of access name o)) true ≡ true
    lets_one n id one h e false f may = refl
    lets_one n id one h e true f may = rw (← e) (through_if o id lives (may ((decides one).0 f)))

    lets_at : ((id : AccId) (one : live.Access) → live.access id accesses ≡ Some one → Forbids one → IsThrough accesses o id)
        → (n : ℕ) (a : Option machine.Access) → access n ≡ a → lets a n ≡ true
    lets_at may n None h = none n
    lets_at may n (Some a) h =
        let at = told.named n a h in
        let same : Some a ≡ Some (abstract_access access name at.0 at.1) = sym h ∙ ap access (sym at.3) ∙ told.known at.0 at.1 at.2 in
        ap (λ b. lets b n) same ∙ some n at.0 at.1 ∙ lets_one n at.0 at.1 at.2 at.3 (forbids at.1) refl (may at.0 at.1 at.2)

    all_if : ((id : AccId) (one : live.Access) → live.access id accesses ≡ Some one → Forbids one → IsThrough accesses o id)
        → all_below opened (λ n. lets (access n) n) ≡ true
    all_if may = all_below_if opened (λ n. lets (access n) n) (λ n below. lets_at may n (access n) refl)

  touches_decides : (r : Range) (one : live.Access) → Decides (touches one r) (MeetsAccess r one)
  touches_decides r one = (touches_then r one, touches_if r one)

  writes_touches : (r : Range) (one : live.Access) (w : Way) → one.way ≡ w
      → Decides (writes (abstract_way w) && touches one r) ((one.way ≡ kept.Write) × MeetsAccess r one)
  writes_touches r one kept.Read w = (λ h. absurd (cc), λ p. absurd (differ (sym w ∙ p.0)))
    where
      differ : kept.Read ≡ kept.Write → ⊥
      differ e = cc
  writes_touches r one kept.Write w = (λ h. (w, touches_then r one h), λ p. touches_if r one p.1)

  pub may_read_is : (r : Range) (o : Option AccId) → IsLiveIfGiven o accesses
      → Decides (all_below opened (λ n. lets_read (access n) n (abstract_reach access name r o))) (MayRead accesses r o)
  may_read_is r o lives =
      let lets : Option machine.Access → ℕ → Bool = λ a n. lets_read a n (abstract_reach access name r o) in
      let Forbids : live.Access → Type 0 = λ one. (one.way ≡ kept.Write) × MeetsAccess r one in
      let forbids : live.Access → Bool = λ one. writes (abstract_way one.way) && touches one r in (
        λ all id one h w m. all_then o lives lets Forbids forbids (λ one. writes_touches r one one.way refl)
            (λ n. refl) (λ n id one. refl) all id one h (w, m),
        λ may. all_if o lives lets Forbids forbids (λ one. writes_touches r one one.way refl) (λ n. refl) (λ n id one. refl)
            (λ id one h f. may id one h f.0 f.1),
      )

  all_write : (r : Range) (o : Option AccId) → IsLiveIfGiven o accesses
      → Decides (all_below opened (λ n. lets_write (access n) n (abstract_reach access name r o))) ((id : AccId) (one : live.Access)
      → live.access id accesses ≡ Some one → MeetsAccess r one → IsThrough accesses o id)
  all_write r o lives =
      let lets : Option machine.Access → ℕ → Bool = λ a n. lets_write a n (abstract_reach access name r o) in
      let forbids : live.Access → Bool = λ one. touches one r in (
        λ all id one h m. all_then o lives lets (MeetsAccess r) forbids (touches_decides r) (λ n. refl) (λ n id one. refl) all id one h m,
        λ may. all_if o lives lets (MeetsAccess r) forbids (touches_decides r) (λ n. refl) (λ n id one. refl) may,
      )

  told_writes : (w : Way) → Decides (writes (abstract_way w)) (w ≡ kept.Write)
  told_writes kept.Read = (λ h. absurd (cc), λ h. absurd (cc))
  told_writes kept.Write = (λ h. refl, λ h. refl)

  writes_is : (o : Option AccId) → IsLiveIfGiven o accesses → Decides (writes (way_of access name o)) (Writes accesses o)
  writes_is None lives = (λ h. tt, λ h. refl)
  writes_is (Some id) lives =
      let one = found (live.access id accesses) lives in
      rw (way_is id one.0 one.1) (way_in_it one.0 (live.access id accesses) one.1)
    where
      way_in_it : (one : live.Access) (o : Option live.Access) → o ≡ Some one → Decides (writes (abstract_way one.way)) (IsSomeAnd o (λ a. a.way ≡ kept.Write))
      way_in_it one o h = rw h (told_writes one.way)

  pub may_write_is : (r : Range) (o : Option AccId) → IsLiveIfGiven o accesses
      → Decides (writes (way_of access name o) && all_below opened (λ n. lets_write (access n) n (abstract_reach access name r o))) (MayWrite accesses r o)
  may_write_is r o lives = (
    λ h. let p = both (writes (way_of access name o)) _ h in record { alone = (all_write r o lives).0 p.1; writes = (writes_is o lives).0 p.0 },
    λ may. joined (writes (way_of access name o)) _ ((writes_is o lives).1 may.writes) ((all_write r o lives).1 may.alone),
  )
