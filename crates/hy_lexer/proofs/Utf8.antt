-- Where a text stops being UTF-8.
use Rattle.std.proofs.Common.{◌≡◌, ℕ, ◌+◌, ◌<◌, ◌≤◌, List, [], ◌∷◌, ◌++◌, length, take, drop, refl, sym, ◌∙◌, ap, subst, arith, true, ◌&&◌, Bool, false}
use Rattle.std.proofs.Common.{length-append, length-take, append_assoc, take_all, take-append-drop}
use Rattle.std.specs.Char.{encode_utf8}
use Rattle.std.specs.Str.{IsUtf8, StartsWithNoChar, IsValidUpTo, encode_utf8_all, all_scalars}
use Rattle.std.proofs.lemmas.Str.{encode_same, IsUtf8-append, IsUtf8-encode, length-encode, len_utf8_bounds}
use Rattle.std.proofs.Math.Seq.{take-append-add, take-append_seam}

both_parts : (a b : Bool) → (a && b) ≡ true → (a ≡ true) × (b ≡ true)
both_parts true b e = (refl, e)
both_parts false b e = cc

-- characters before a place where none begins are at least as many as any others from the start
front_within : (cs ds x y : List ℕ) → encode_utf8_all cs ++ x ≡ encode_utf8_all ds ++ y → all_scalars ds ≡ true → StartsWithNoChar x
    → length (encode_utf8_all ds) ≤ length (encode_utf8_all cs)
front_within cs [] x y e h free = omega arith
front_within [] (d ∷ ds) x y e h free = absurd (free d (encode_utf8_all ds ++ y) (both_parts _ _ h).0 (e ∙ rw append_assoc))
front_within (c ∷ cs) (d ∷ ds) x y e h free =
    let both = encode_same c d (encode_utf8_all cs ++ x) (encode_utf8_all ds ++ y) (rw (← append_assoc, ← append_assoc) e) in
    omega (
      arith,
      front_within cs ds x y both.1 (both_parts _ _ h).1 free,
      length-append (encode_utf8 c) (encode_utf8_all cs),
      length-append (encode_utf8 d) (encode_utf8_all ds),
      ap (λ n. length (encode_utf8 n)) both.0,
    )

-- where no character begins, no longer front is UTF-8
pub no_later : (bytes : List ℕ) (at to : ℕ) → at < length bytes → IsUtf8 (take at bytes) → StartsWithNoChar (drop at bytes) → to ≤ length bytes
    → IsUtf8 (take to bytes) → to ≤ at
no_later bytes at to short u free within v =
    let e : encode_utf8_all u.0 ++ drop at bytes ≡ encode_utf8_all v.0 ++ drop to bytes =
    ap (λ t. t ++ drop at bytes) u.1.1 ∙ take-append-drop at bytes ∙ sym (take-append-drop to bytes) ∙ sym (ap (λ t. t ++ drop to bytes) v.1.1) in
    omega (
      arith,
      front_within u.0 v.0 (drop at bytes) (drop to bytes) e v.1.0 free,
      ap length u.1.1,
      ap length v.1.1,
      length-take at bytes,
      length-take to bytes,
    )

pub not_all : (bytes : List ℕ) (at : ℕ) → at < length bytes → IsUtf8 (take at bytes) → StartsWithNoChar (drop at bytes) → IsUtf8 bytes → ⊥
not_all bytes at short u free v =
    let w : IsUtf8 (take (length bytes) bytes) = subst IsUtf8 (sym (take_all (length bytes) bytes (omega arith))) v in
    omega (arith, no_later bytes at (length bytes) short u free (omega arith) w)

pub no_char_there : (bytes : List ℕ) (at : ℕ) → IsValidUpTo bytes at → StartsWithNoChar (drop at bytes)
no_char_there bytes at valid c rest scalar e =
    let front = take at bytes in
    let l : length front ≡ at = omega (arith, length-take at bytes, valid.short) in
    let whole : front ++ (encode_utf8 c ++ rest) ≡ bytes = ap (λ t. front ++ t) (sym e) ∙ take-append-drop at bytes in
    let cut : take (length front + length (encode_utf8 c)) bytes ≡ front ++ encode_utf8 c =
    ap (λ t. take (length front + length (encode_utf8 c)) t) (sym whole) ∙ take-append-add front (encode_utf8 c ++ rest) (length (encode_utf8 c))
    ∙ ap (λ t. front ++ t) (take-append_seam (encode_utf8 c) rest) in
    valid.longest (length front + length (encode_utf8 c)) (omega (arith, length-encode c, (len_utf8_bounds c).0))
    (subst IsUtf8 (sym cut) (IsUtf8-append front (encode_utf8 c) valid.front (IsUtf8-encode c scalar)))

pub ruleset all_lemmas = (not_all, no_later, no_char_there)
