-- What becomes of the blocks where cells are stored, and where one is taken or freed.
use Rattle.std.proofs.Common.{◌≡◌, ◌<◌, ◌≤◌, ◌+◌, ◌-◌, ◌^◌, ℕ, zero, suc, Bool, true, false, nat_eq, ℤ, ◌⊎◌, inl, inr, List, [], ◌∷◌, length, replicate}
use Rattle.std.proofs.Common.{Some, None, sym, ap, subst, ◌∙◌, arith}
use Rattle.std.proofs.lemmas.Bool.Decides.{nat_tests}
use Rattle.hy_object.specs.States as machine
use Rattle.hy_object.specs.States.{nth, within, with_cells, with_at, Range}
use Rattle.hy_store.specs.Cells.{Cell, Unset, Word, Name, with_window, window}
use Rattle.hy_store.specs.Memory.{Live, with_block}
use Rattle.hy_store.specs.Held.{abstract_cell, IsGood, Tells, IsBlock, AreHeld}
use Rattle.hy_store.proofs.Rows.{nth_stored, nth_window, nth_replicate, length_stored}

pub same_or_other : (a b : ℕ) → ((nat_eq a b ≡ true) × (a ≡ b)) ⊎ (nat_eq a b ≡ false)
same_or_other a b = grind (arith, nat_tests)

pub flip : (a b : ℕ) → nat_eq a b ≡ nat_eq b a
flip a b = grind (arith, nat_tests)

pub still_good : (is_array : ℕ → Bool) (taken : ℕ) (v : Bool) (c : Cell) → IsGood is_array taken c → IsGood (with_at is_array taken v) (suc taken) c
still_good is_array taken v Unset good = tt
still_good is_array taken v (Word n) good = tt
still_good is_array taken v (Name b) good = (omega (arith, good.0), rw (apart b taken good.0) good.1)
  where
    apart : (m n : ℕ) → m < n → nat_eq m n ≡ false
    apart m n h = grind (arith, nat_tests)

module _ (is_array : ℕ → Bool) (taken : ℕ) where
  pub tells_window : (cells : List Cell) (f : machine.Cells) (from n : ℕ) → Tells is_array taken cells f
      → Tells is_array taken (window cells from n) (λ i. f (from + i))
  tells_window cells f from n tells i c h = let p = nth_window cells from n i c h in tells (from + i) c p.1

  pub tells_unset : (n : ℕ) → Tells is_array taken (replicate n Unset) machine.unset
  tells_unset n i c h = let p = nth_replicate n Unset i c h in (ap abstract_cell p.1, subst (IsGood is_array taken) p.1 tt)

  pub tells_word : (n : ℤ) → Tells is_array taken (Word n ∷ []) (λ i. machine.Word n)
  tells_word n zero c h = let e : Word n ≡ c = cc in (ap abstract_cell e, subst (IsGood is_array taken) e tt)
  tells_word n (suc i) c h = absurd (cc)

  module _ (blocks new : Live) (cells : ℕ → machine.Cells) (words freed : ℕ → ℕ) (held : AreHeld blocks is_array taken cells words freed) where
    -- cells are stored in a block
    pub stored : (b from : ℕ) (found row : List Cell) (f : machine.Cells) → blocks b ≡ Some found → from + length row ≤ length found
        → Tells is_array taken row f →
        ((other : ℕ) → new other ≡ with_block blocks b (Some (with_window found from row)) other)
        → AreHeld new is_array taken (with_cells cells (record { block = b; from = from; words = length row }) f) words freed
    stored b from found row f is fits tells becomes =
        record {
          known = λ other now h. elim (same_or_other b other) [
            | inl same ↦ here other now same.0 same.1 (sym (rw same.0 at (becomes other)) ∙ h)
            | inr differs ↦ there other now differs (sym (rw differs at (becomes other)) ∙ h)
          ];
          gone = λ other below h. elim (same_or_other b other) [
            | inl same ↦ absurd (some_none (sym (rw same.0 at (becomes other)) ∙ h))
            | inr differs ↦ held.gone other below (sym (rw differs at (becomes other)) ∙ h)
          ];
          fresh = held.fresh;
        }
      where
        some_none : {x : List Cell} → Some x ≡ None → ⊥
        some_none h = cc

        here : (other : ℕ) (now : List Cell) → nat_eq b other ≡ true → b ≡ other → Some (with_window found from row) ≡ Some now
            → IsBlock is_array taken (words other) (freed other) other (with_cells cells (record { block = b; from = from; words = length row }) f other)
            now
        here other now test same is_now =
            let e : with_window found from row ≡ now = cc in
            let known = subst (λ k. IsBlock is_array taken (words k) (freed k) k (cells k) found) same (held.known b found is) in
            let test' : nat_eq other b ≡ true = flip other b ∙ test in
            let size : length now ≡ length found = ap length (sym e) ∙ length_stored found row from fits in
            record {
              live = known.live;
              size = known.size ∙ sym size;
              small = omega (arith, known.small, size);
              named = known.named;
              tells = λ i c h. elim (nth_stored found row from i c fits (ap (λ cs. nth cs i) e ∙ h)) [
                | inl p ↦ let t = tells (i - from) c p.1 in (rw (test', p.0) t.0, t.1)
                | inr p ↦ let t = known.tells i c p.1 in (rw (test', p.0) t.0, t.1)
              ];
            }

        there : (other : ℕ) (now : List Cell) → nat_eq b other ≡ false → blocks other ≡ Some now
            → IsBlock is_array taken (words other) (freed other) other (with_cells cells (record { block = b; from = from; words = length row }) f other)
            now
        there other now test h =
            let known = held.known other now h in
            let test' : nat_eq other b ≡ false = flip other b ∙ test in
            record {
              live = known.live;
              size = known.size;
              small = known.small;
              named = known.named;
              tells = λ i c h. let t = known.tells i c h in
                  (rw test' t.0, t.1);
            }

    -- a block is freed
    pub freed_one : (b : ℕ) → b < taken → ((other : ℕ) → new other ≡ with_block blocks b None other)
        → AreHeld new is_array taken cells words (with_at freed b (suc (freed b)))
    freed_one b below becomes = record {
      known = λ other now h. elim (same_or_other b other) [
        | inl same ↦ absurd (none_some (sym (rw same.0 at (becomes other)) ∙ h))
        | inr differs ↦ let known = held.known other now (sym (rw differs at (becomes other)) ∙ h) in
            record { live = rw (flip other b ∙ differs) known.live; size = known.size; small = known.small; named = known.named; tells = known.tells }
      ];
      gone = λ other under h. elim (same_or_other b other) [
        | inl same ↦ rw (flip other b ∙ same.0) (no_zero (freed b))
        | inr differs ↦ rw (flip other b ∙ differs) (held.gone other under (sym (rw differs at (becomes other)) ∙ h))
      ];
      fresh = λ other le. rw (apart other b (omega arith)) (held.fresh other le);
    }
      where
        none_some : {x : List Cell} → None ≡ Some x → ⊥
        none_some h = cc

        apart : (m n : ℕ) → n < m → nat_eq m n ≡ false
        apart m n h = grind (arith, nat_tests)

        no_zero : (n : ℕ) → nat_eq (suc n) 0 ≡ false
        no_zero n = grind (arith, nat_tests)

    -- a block is taken, with these cells
    pub taken_one : (v : Bool) (row : List Cell) (f : machine.Cells) → length row < 2 ^ 32 → Tells (with_at is_array taken v) (suc taken) row f
        → ((other : ℕ) → new other ≡ with_block blocks taken (Some row) other) →
        AreHeld new (with_at is_array taken v) (suc taken) (with_at cells taken f) (with_at words taken (length row)) freed
    taken_one v row f small tells becomes = record {
      known = λ other now h. elim (same_or_other taken other) [
        | inl same ↦ let e : row ≡ now = inside (sym (rw same.0 at (becomes other)) ∙ h) in
            let test : nat_eq other taken ≡ true = flip other taken ∙ same.0 in
            record {
              live = ap freed (sym same.1) ∙ held.fresh taken (omega arith);
              size = rw test (ap length e);
              small = subst (λ (cs : List Cell). length cs < 2 ^ 32) e small;
              named = omega (arith, same.1);
              tells = λ i c g. let t = tells i c (ap (λ cs. nth cs i) e ∙ g) in (rw test t.0, t.1);
            }
        | inr differs ↦
            let known = held.known other now (sym (rw differs at (becomes other)) ∙ h) in
            let test : nat_eq other taken ≡ false = flip other taken ∙ differs in
            record {
              live = known.live;
              size = rw test known.size;
              small = known.small;
              named = omega (arith, known.named);
              tells = λ i c g. let t =
                  known.tells i c g in (rw test t.0, still_good is_array taken v c t.1);
            }
      ];
      gone = λ other below h. elim (same_or_other taken other) [
        | inl same ↦ absurd (some_none (sym (rw same.0 at (becomes other)) ∙ h))
        | inr differs ↦ held.gone other (less other differs below) (sym (rw differs at (becomes other)) ∙ h)
      ];
      fresh = λ other le. held.fresh other (omega arith);
    }
      where
        some_none : {x : List Cell} → Some x ≡ None → ⊥
        some_none h = cc

        inside : {x y : List Cell} → Some x ≡ Some y → x ≡ y
        inside h = cc

        less : (other : ℕ) → nat_eq taken other ≡ false → other < suc taken → other < taken
        less other test h = grind (arith, nat_tests)
