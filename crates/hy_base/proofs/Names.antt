-- Sets of names, and what is known of a name.
use Rattle.std.specs.Prelude.{◌≡◌, ◌≢◌, ℕ, Bool, true, false, cond, List, Option, Some, refl, ◌⊎◌}
use Rattle.std.proofs.Common.{sym, ◌∙◌, ap, subst, inl, inr, ⊎_elim}
use Rattle.std.proofs.lemmas.Bool.{false_from_ne_true}
use Rattle.std.proofs.lemmas.Slice.Eq.{bytes_eq-Decides}
use Rattle.std.specs.Str.{bytes_eq}
use Rattle.hy_base.specs.Files.{Held, Untold, Missing, Holding, IsHolding, IsStored}
use Rattle.hy_base.specs.Memory.{held}

-- the two truth values differ
true_ne_false : true ≡ false → ⊥
true_ne_false e = cc

-- two names are the same, or not
pub same_name : (n name : List ℕ) → (n ≡ name) ⊎ (n ≢ name)
same_name n name = elim (bytes_eq n name) as (λ b. bytes_eq n name ≡ b → (n ≡ name) ⊎ (n ≢ name)) [
  | true ↦
      λ e. inl ((bytes_eq-Decides n name).0 e)
  | false ↦ λ e. inr (λ same. true_ne_false (sym ((bytes_eq-Decides n name).1 same) ∙ e))
] refl

-- what was known of a name after it was added or taken out
pub told_at : (key name : List ℕ) (now old : Bool) → key ≡ name → (after : Bool) → after ≡ cond (bytes_eq key name) now old → after ≡ now
told_at key name now old same after e = e ∙ ap (λ b. cond b now old) ((bytes_eq-Decides key name).1 same)

-- what is known of the others
pub told_other : (key n : List ℕ) (now old : Bool) → n ≢ key → (after : Bool) → after ≡ cond (bytes_eq key n) now old → after ≡ old
told_other key n now old differs after e = e
    ∙ ap (λ b. cond b now old) (false_from_ne_true (bytes_eq key n) (λ same. differs (sym ((bytes_eq-Decides key n).0 same))))

-- a name that holds the bytes that were stored under it
pub is_stored : (old new : Held) (bytes : List ℕ) → new ≡ Holding bytes → IsStored old new bytes
is_stored Untold Untold bytes e = tt
is_stored Untold Missing bytes e = e
is_stored Untold (Holding found) bytes e = e
is_stored Missing new bytes e = e
is_stored (Holding found) new bytes e = e

-- what is known of a name that is told and stands for bytes
pub held_bytes : (lost : Bool) (under : Option (List ℕ)) (bytes : List ℕ) → lost ≡ false → under ≡ Some bytes → held lost under ≡ Holding bytes
held_bytes lost under bytes told stands = λ i. held (told i) (stands i)

-- what is known of a name stays where nothing changes
pub held_same : (a b : Bool) (x y : Option (List ℕ)) → a ≡ b → x ≡ y → held a x ≡ held b y
held_same a b x y p q = λ i. held (p i) (q i)

-- a name that does not hold bytes did not hold them before, if nothing changed
pub still_none : (a b : Held) → a ≡ b → (IsHolding a → ⊥) → IsHolding b → ⊥
still_none a b same none there = none (subst IsHolding (sym same) there)

-- of a name that is lost no bytes are known
pub lost_none : (lost : Bool) (under : Option (List ℕ)) → true ≡ lost → IsHolding (held lost under) → ⊥
lost_none lost under gone there = let P : Bool → Type 0 = λ b. IsHolding (held b under) in subst P (sym gone) there

-- a name of which something was told before a call that loses or stores another
pub none_before : (name n : List ℕ) (a b : Held) → (n ≢ name → a ≡ b) → (n ≡ name → IsHolding a) → (IsHolding a → ⊥) → IsHolding b → ⊥
none_before name n a b others there none before =
    ⊎_elim (λ same. none (there same)) (λ differs. none (subst IsHolding (sym (others differs)) before)) (same_name n name)

-- a name that holds the bytes that were stored
pub there_after : (a : Held) (bytes : List ℕ) → a ≡ Holding bytes → IsHolding a
there_after a bytes e = subst IsHolding (sym e) tt
