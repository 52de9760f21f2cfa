-- Look-ups in the tables of words and marks.
use Rattle.std.proofs.Common.{◌≡◌, sym, subst, ◌⊎◌, inl, inr, ℕ, List, [], ◌∷◌, ◌++◌, refl, cond, true, false, Some, None}
use Rattle.std.specs.Prelude.{Option, Bool}
use Rattle.std.specs.List.{AllByRecursion}
use Rattle.std.specs.Str.{bytes_eq}
use Rattle.std.proofs.lemmas.Slice.Eq.{bytes_eq-Decides}
use Rattle.hy_lexer.specs.declared.token.TokenKind.{TokenKind}
use Rattle.hy_lexer.specs.Words.{kind_in}

found_too : (b : Bool) (row one all found : Option TokenKind) → (one ≡ found → all ≡ found) → cond b row one ≡ found → cond b row all ≡ found
found_too true row one all found more h = h
found_too false row one all found more h = more h

-- a row after the rows of another table
pub kind_in-append : (one other : List (List ℕ × TokenKind)) (text : List ℕ) (kind : TokenKind) → kind_in one text ≡ Some kind
    → kind_in (one ++ other) text ≡ Some kind
kind_in-append [] other text kind found = cc
kind_in-append (row ∷ one) other text kind found = found_too (bytes_eq text row.0) _ _ _ _ (kind_in-append one other text kind) found

passed : (b : Bool) (row : TokenKind) (one all found : Option TokenKind) → (one ≡ None → all ≡ found) → cond b (Some row) one ≡ None
    → cond b (Some row) all ≡ found
passed true row one all found more h = cc
passed false row one all found more h = more h

-- a table that lacks the text
pub kind_in_lacks : (one other : List (List ℕ × TokenKind)) (text : List ℕ) → kind_in one text ≡ None → kind_in (one ++ other) text ≡ kind_in other text
kind_in_lacks [] other text none = refl
kind_in_lacks (row ∷ one) other text none = passed (bytes_eq text row.0) _ _ _ _ (kind_in_lacks one other text) none

at_row : (b : Bool) (row : TokenKind) (rest : Option TokenKind) (kind : TokenKind) (P : Type 0) → (b ≡ true → P) → (rest ≡ Some kind → P)
    → cond b (Some row) rest ≡ Some kind → P
at_row true row rest kind P here there found = here refl
at_row false row rest kind P here there found = there found

-- what holds of each row holds of a text that is found
pub kind_in-All : (P : List ℕ → Type 0) (table : List (List ℕ × TokenKind)) (text : List ℕ) (kind : TokenKind) → AllByRecursion (λ row. P row.0) table
    → kind_in table text ≡ Some kind → P text
kind_in-All P [] text kind all found = cc
kind_in-All P (row ∷ table) text kind all found =
    at_row (bytes_eq text row.0) _ _ _ (P text) (λ same. subst P (sym ((bytes_eq-Decides text row.0).0 same)) all.0) (kind_in-All P table text kind all.1)
    found

one_or_other : (b : Bool) (row one all other found : Option TokenKind) → (all ≡ found → (one ≡ found) ⊎ (other ≡ found)) → cond b row all ≡ found
    → (cond b row one ≡ found) ⊎ (other ≡ found)
one_or_other true row one all other found more h = inl h
one_or_other false row one all other found more h = more h

-- a text that is found in two tables is in one of them
pub kind_in-either : (one other : List (List ℕ × TokenKind)) (text : List ℕ) (kind : TokenKind) → kind_in (one ++ other) text ≡ Some kind
    → (kind_in one text ≡ Some kind) ⊎ (kind_in other text ≡ Some kind)
kind_in-either [] other text kind found = inr found
kind_in-either (row ∷ one) other text kind found = one_or_other (bytes_eq text row.0) _ _ _ _ _ (kind_in-either one other text kind) found
