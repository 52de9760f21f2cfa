-- Fields that are always the same bytes.
use Rattle.std.proofs.Common.{◌≡◌, ◌≢◌, ℕ, true, List, [], ◌∷◌, ◌++◌, Option, Some, None, nat_eq, refl, ap, sym, ◌∙◌, arith, inl, inr}
use Rattle.std.specs.Prelude.{MatchOption}
use Rattle.std.specs.Borrow.{Bor}
use Rattle.std.proofs.lemmas.Bool.Decides.{nat_tests, eqb_tells}
use Rattle.hy_object.specs.Reading.{Finds}
use Rattle.hy_object.specs.Formats.{read_mark}
use Rattle.hy_object.proofs.Choices.{some_is, none_is_some}

pub mark_again : (mark rest : List ℕ) → read_mark mark (mark ++ rest) ≡ Some (tt, rest)
mark_again [] rest = refl
mark_again (m ∷ mark) rest = let same : nat_eq m m ≡ true = grind (arith, nat_tests) in rw same (mark_again mark rest)

pub mark_taken : (mark bytes rest : List ℕ) → read_mark mark bytes ≡ Some (tt, rest) → bytes ≡ mark ++ rest
mark_taken [] bytes rest e = ap (λ (x : Unit {0} × List ℕ). x.1) (some_is _ _ e)
mark_taken (m ∷ mark) [] rest e = absurd cc
mark_taken (m ∷ mark) (b ∷ bytes) rest e =
    elim (eqb_tells m b) [
      | inl h ↦ rw h.1 (ap (λ (t : List ℕ). b ∷ t) (mark_taken mark bytes rest (rw h.0 at e)))
      | inr h ↦ absurd (none_is_some _ (rw h.0 at e))
    ]

-- no mark is read where the bytes do not begin with it
mark_missed : (mark bytes : List ℕ) (found : Option (Unit {0} × List ℕ)) → found ≡ read_mark mark bytes → ((rest : List ℕ) → bytes ≢ mark ++ rest)
    → read_mark mark bytes ≡ None
mark_missed mark bytes None e h = sym e
mark_missed mark bytes (Some (t, rest)) e h = absurd (h rest (mark_taken mark bytes rest (sym e)))

pub mark_found : (mark bytes : List ℕ) (found : Option (Bor (List ℕ)))
    → MatchOption found ((rest : List ℕ) → bytes ≢ mark ++ rest) (λ x. bytes ≡ mark ++ x.now) → Finds (λ x. (tt, x.now)) found (read_mark mark bytes)
mark_found mark bytes None h = mark_missed mark bytes _ refl h
mark_found mark bytes (Some x) h = ap (read_mark mark) h ∙ mark_again mark x.now
