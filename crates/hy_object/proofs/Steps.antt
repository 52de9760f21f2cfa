-- Reading numbers, a byte at a time.
use Rattle.std.proofs.Common.{◌≡◌, ℕ, zero, suc, ◌+◌, ◌-◌, ◌*◌, ◌^◌, ◌<◌, ◌≤◌, ◌^◌, List, [], ◌∷◌, ◌++◌, length, Option, Some, None, refl, ap, sym, ◌∙◌, arith}
use Rattle.std.proofs.Common.{length-set, take_all}
use Rattle.std.proofs.Math.ListN.{set, take}
use Rattle.std.proofs.Math.Seq.{take-suc-set}
use Rattle.std.proofs.Math.Numerals.{add-one}
use Rattle.std.specs.Prelude.{slice_get}
use Rattle.std.specs.Option.{option_and_then}
use Rattle.hy_object.proofs.Choices.{is_below, not_below, differs}
use Rattle.hy_object.specs.declared.number.Signed.{Signed}
use Rattle.hy_object.specs.declared.form.TheConstants.{FORMS}
use Rattle.hy_object.specs.Reading.{read_groups, joined, read_signed, signed_joined, with_group, last_group, read_row, read_count, form_at}

-- COUNTS

pub no_group : (most : ℕ) (bytes : List ℕ) → most ≡ 0 → read_groups most bytes ≡ None
unfolding read_groups
no_group most bytes h = rw h refl

pub no_byte : (most : ℕ) (bytes : List ℕ) → (most ≡ 0 → ⊥) → length bytes ≡ 0 → read_groups most bytes ≡ None
unfolding read_groups
no_byte zero bytes some h = refl
no_byte (suc k) [] some h = refl
no_byte (suc k) (b ∷ bytes) some h = absurd (omega arith)

pub one_group : (most b : ℕ) (bytes all : List ℕ) → (most ≡ 0 → ⊥) → all ≡ b ∷ bytes → b < 128 → read_groups most all ≡ Some (b, bytes)
unfolding read_groups
one_group zero b bytes all some e h = absurd (some refl)
one_group (suc k) b bytes all some e h = rw (e, is_below b 128 h) refl

pub more_groups : (most b : ℕ) (bytes all : List ℕ) → (most ≡ 0 → ⊥) → all ≡ b ∷ bytes → 128 ≤ b → b < 256
    → read_groups most all ≡ joined (b - 128) (read_groups (most - 1) bytes)
unfolding read_groups
more_groups zero b bytes all some e h lt = absurd (some refl)
more_groups (suc k) b bytes all some e h lt = rw (e, not_below b 128 h, is_below b 256 lt) (let p : suc k - 1 ≡ k = omega arith in rw p refl)

pub joined_none : (low : ℕ) (o : Option (ℕ × List ℕ)) → o ≡ None → joined low o ≡ None
joined_none low o e = rw e refl

pub joined_zero : (low high : ℕ) (rest : List ℕ) (o : Option (ℕ × List ℕ)) → o ≡ Some (high, rest) → high ≡ 0 → joined low o ≡ None
joined_zero low high rest o e h = rw (e, h) refl

pub joined_large : (low high : ℕ) (rest : List ℕ) (o : Option (ℕ × List ℕ)) → o ≡ Some (high, rest) → (high ≡ 0 → ⊥) → 2 ^ 25 ≤ high → joined low o ≡ None
joined_large low high rest o e h l = rw (e, differs high 0 h, not_below high (2 ^ 25) l) refl

pub joined_some : (low high : ℕ) (rest : List ℕ) (o : Option (ℕ × List ℕ)) → o ≡ Some (high, rest) → (high ≡ 0 → ⊥) → high < 2 ^ 25
    → joined low o ≡ Some (128 * high + low, rest)
joined_some low high rest o e h l = rw (e, differs high 0 h, is_below high (2 ^ 25) l) refl

-- VALUES

pub no_signed_group : (most : ℕ) (bytes : List ℕ) → most ≡ 0 → read_signed most bytes ≡ None
unfolding read_signed
no_signed_group most bytes h = rw h refl

pub no_signed_byte : (most : ℕ) (bytes : List ℕ) → (most ≡ 0 → ⊥) → length bytes ≡ 0 → read_signed most bytes ≡ None
unfolding read_signed
no_signed_byte zero bytes some h = refl
no_signed_byte (suc k) [] some h = refl
no_signed_byte (suc k) (b ∷ bytes) some h = absurd (omega arith)

pub one_signed_group : (most b : ℕ) (s : Signed) (bytes all : List ℕ) → (most ≡ 0 → ⊥) → all ≡ b ∷ bytes → b < 128 → s ≡ last_group b
    → read_signed most all ≡ Some (s, bytes)
unfolding read_signed
one_signed_group zero b s bytes all some e h g = absurd (some refl)
one_signed_group (suc k) b s bytes all some e h g = rw (e, is_below b 128 h, g) refl

pub more_signed_groups : (most b : ℕ) (bytes all : List ℕ) → (most ≡ 0 → ⊥) → all ≡ b ∷ bytes → 128 ≤ b → b < 256
    → read_signed most all ≡ signed_joined (b - 128) (read_signed (most - 1) bytes)
unfolding read_signed
more_signed_groups zero b bytes all some e h lt = absurd (some refl)
more_signed_groups (suc k) b bytes all some e h lt = rw (e, not_below b 128 h, is_below b 256 lt) (let p : suc k - 1 ≡ k = omega arith in rw p refl)

pub signed_joined_none : (low : ℕ) (o : Option (Signed × List ℕ)) → o ≡ None → signed_joined low o ≡ None
signed_joined_none low o e = rw e refl

pub signed_joined_some : (low : ℕ) (high : Signed) (rest : List ℕ) (o : Option (Signed × List ℕ)) (joined : Option Signed) → o ≡ Some (high, rest)
    → joined ≡ with_group low high
    → signed_joined low o ≡ option_and_then (λ s. Some (s, rest)) joined
signed_joined_some low high rest o joined e g = rw (e, g) refl

-- ROWS

pub no_count : (left : ℕ) (row bytes : List ℕ) → 0 < left → read_count bytes ≡ None → read_row left row bytes ≡ None
unfolding read_row
no_count zero row bytes h e = absurd (omega arith)
no_count (suc k) row bytes h e = rw e refl

pub one_count : (left n : ℕ) (row bytes rest : List ℕ) → 0 < left → read_count bytes ≡ Some (n, rest)
    → read_row left row bytes ≡ read_row (left - 1) (row ++ n ∷ []) rest
unfolding read_row
one_count zero n row bytes rest h e = absurd (omega arith)
one_count (suc k) n row bytes rest h e = rw e (let p : suc k - 1 ≡ k = omega arith in rw p refl)

pub row_read : (left : ℕ) (row bytes : List ℕ) → left ≡ 0 → read_row left row bytes ≡ Some (row, bytes)
unfolding read_row
row_read left row bytes h = rw h refl

-- FORMS

pub form_above : (n : ℕ) → (n ≡ 0 → ⊥) → form_at n ≡ slice_get FORMS (n - 1)
form_above n h = rw (differs n 0 h) refl

-- one more number stands in a row
pub row_goes_on : (size i n : ℕ) (row bytes rest : List ℕ) (total : Option (List ℕ × List ℕ))
    → i < size → length row ≡ size → read_count bytes ≡ Some (n, rest)
    → read_row (size - i) (take i row) bytes ≡ total → (length (set row i n) ≡ size) × (read_row (size - (i + 1)) (take (i + 1) (set row i n)) rest ≡ total)
row_goes_on size i n row bytes rest total lt len found so_far =
    let left : 0 < size - i = omega arith in
    let less : size - (i + 1) ≡ size - i - 1 = omega arith in
    let longer : take (i + 1) (set row i n) ≡ take i row ++ n ∷ [] = rw add-one (take-suc-set row i n (omega arith)) in
    (simp length-set len, rw (less, longer) (sym (one_count (size - i) n (take i row) bytes rest left found) ∙ so_far))

pub row_ends : (size i : ℕ) (row bytes : List ℕ) (total : Option (List ℕ × List ℕ)) → size ≤ i → length row ≡ size
    → read_row (size - i) (take i row) bytes ≡ total → total ≡ Some (row, bytes)
row_ends size i row bytes total le len so_far = sym so_far ∙ row_read (size - i) (take i row) bytes (omega arith)
    ∙ ap (λ (r : List ℕ). Some (r, bytes)) (take_all i row (omega arith))
