-- A number that is read is the one that is spelled there, and one that is spelled is read.
use Rattle.std.proofs.Common.{◌≡◌, ℕ, zero, suc, ◌+◌, ◌-◌, ◌*◌, ◌/◌, ◌%◌, ◌^◌, ◌<◌, ◌≤◌, Bool, true, false, List, [], ◌∷◌, ◌++◌, nat_lt, nat_eq, Option}
use Rattle.std.proofs.Common.{Some, None, ⊎_elim, refl, ap, sym, subst, ◌∙◌, lit<, arith, inl, inr}
use Rattle.std.proofs.lemmas.Bool.{cases_lt}
use Rattle.std.proofs.lemmas.Nat.{div_below}
use Rattle.hy_object.specs.declared.number.Signed.{Signed}
use Rattle.hy_object.specs.Numbers.{groups, signed_groups, count_bytes, low_group}
use Rattle.hy_object.specs.Reading.{read_groups, joined, read_count, read_signed, signed_joined, with_group, last_group}
use Rattle.hy_object.proofs.Choices.{is_below, not_below, below, at_least, differs, other, some_is, chosen, kept, passed, and_then_some}
use Rattle.hy_object.proofs.Groups.{limit}

-- COUNTS

joined_takes : (low n : ℕ) (rest : List ℕ) (o : Option (ℕ × List ℕ)) → joined low o ≡ Some (n, rest)
    → (high : ℕ) × (o ≡ Some (high, rest)) × (high ≡ 0 → ⊥) × (high < 2 ^ 25) × (n ≡ 128 * high + low)
joined_takes low n rest None e = absurd cc
joined_takes low n rest (Some (high, behind)) e =
    let p = passed (nat_eq high 0) _ _ e in
    let q = kept (nat_lt high (2 ^ 25)) _ _ p.1 in
    let same : Some (128 * high + low, behind) ≡ Some (n, rest) = q.1 in
    let pair = some_is _ _ same in (
      high,
      ap (λ (r : List ℕ). Some (high, r)) (ap (λ (x : ℕ × List ℕ). x.1) pair),
      other high 0 p.0,
      below high (2 ^ 25) q.0,
      sym (ap (λ (x : ℕ × List ℕ). x.0) pair),
    )

one_group_spelled : (k n : ℕ) → n < 128 → groups (suc k) n ≡ n ∷ []
one_group_spelled k n h = rw (is_below n 128 h) refl

more_groups_spelled : (k b high : ℕ) → 128 ≤ b → b < 256 → (high ≡ 0 → ⊥) → groups (suc k) (128 * high + (b - 128)) ≡ b ∷ groups k high
more_groups_spelled k b high ge lt some =
    let n = 128 * high + (b - 128) in
    let large : 128 ≤ n = omega arith in
    let low : 128 + n % 128 ≡ b = omega arith in
    let rest : n / 128 ≡ high = omega arith in
    rw (not_below n 128 large, low, rest) refl

groups_taken : (k n : ℕ) (bytes rest : List ℕ) → read_groups k bytes ≡ Some (n, rest) → (bytes ≡ groups k n ++ rest) × (n < 2 ^ 32)
unfolding read_groups
groups_taken zero n bytes rest e = absurd cc
groups_taken (suc k) n [] rest e = absurd cc
groups_taken (suc k) n (b ∷ bytes) rest e =
    elim (chosen (nat_lt b 128) (Some (b, bytes)) _ (Some (n, rest)) e) [
      | inl (t, h) ↦
          let small : b < 128 = below b 128 t in
          let pair = some_is _ _ h in
          let same : b ≡ n = ap (λ (x : ℕ × List ℕ). x.0) pair in
          let behind : bytes ≡ rest = ap (λ (x : ℕ × List ℕ). x.1) pair in
          (rw (← same, one_group_spelled k b small, behind) refl, omega arith)
      | inr (f, h) ↦
          let large : 128 ≤ b = at_least b 128 f in
          let p = kept (nat_lt b 256) _ _ h in
          let lt : b < 256 = below b 256 p.0 in
          let j = joined_takes (b - 128) n rest (read_groups k bytes) p.1 in
          let taken = groups_taken k j.0 bytes rest j.1 in
          let small : j.0 < 2 ^ 25 = j.3 in
          let is : n ≡ 128 * j.0 + (b - 128) = j.4 in
          (rw (is, more_groups_spelled k b j.0 large lt j.2) (ap (λ (t : List ℕ). b ∷ t) taken.0), omega arith)
    ]

pub count_taken : (n : ℕ) (bytes rest : List ℕ) → read_count bytes ≡ Some (n, rest) → (bytes ≡ count_bytes n ++ rest) × (n < 2 ^ 32)
unfolding count_bytes
count_taken n bytes rest e = groups_taken 5 n bytes rest e

groups_again : (k n : ℕ) (rest : List ℕ) → n < limit k 128 → n < 2 ^ 32 → read_groups (suc k) (groups (suc k) n ++ rest) ≡ Some (n, rest)
unfolding read_groups
groups_again zero n rest h small = rw (is_below n 128 h, is_below n 128 h) refl
groups_again (suc k) n rest h small =
    ⊎_elim (λ b. rw (is_below n 128 b, is_below n 128 b) refl)
    (λ b.
    let low = 128 + n % 128 in
    let ge : 128 ≤ low = omega arith in
    let lt : low < 256 = omega arith in
    let again = groups_again k (n / 128) rest (div_below n 128 (limit k 128) (lit< tt) h) (omega arith) in
    let some : (n / 128 ≡ 0) → ⊥ = λ z. omega arith in
    let fits : n / 128 < 2 ^ 25 = omega arith in
    let whole : 128 * (n / 128) + (128 + n % 128 - 128) ≡ n = omega arith in
    rw (not_below n 128 b, not_below low 128 ge, is_below low 256 lt, again, differs (n / 128) 0 some, is_below (n / 128) (2 ^ 25) fits, whole) refl)
    (cases_lt n 128)

pub count_again : (n : ℕ) (rest : List ℕ) → n < 2 ^ 32 → read_count (count_bytes n ++ rest) ≡ Some (n, rest)
unfolding count_bytes
count_again n rest h = groups_again 4 n rest (omega arith) h

-- VALUES

low_group_back : (negative : Bool) (group : ℕ) → group < 128 → low_group negative (low_group negative group) ≡ group
low_group_back false group h = refl
low_group_back true group h = omega arith

low_group_small : (negative : Bool) (group : ℕ) → group < 128 → low_group negative group < 128
low_group_small false group h = h
low_group_small true group h = omega arith

with_group_taken : (group : ℕ) (high s : Signed) → with_group group high ≡ Some s
    → (high.number < 2 ^ 56) × (64 ≤ 128 * high.number + low_group high.negative group)
    × (record { negative = high.negative; number = 128 * high.number + low_group high.negative group } ≡ s)
with_group_taken group high s e =
    let p = kept (nat_lt high.number (2 ^ 56)) _ _ e in
    let q = passed (nat_lt (128 * high.number + low_group high.negative group) 64) _ _ p.1 in
    (below high.number (2 ^ 56) p.0, at_least _ 64 q.0, some_is _ _ q.1)

signed_joined_takes : (group : ℕ) (s : Signed) (rest : List ℕ) (o : Option (Signed × List ℕ)) → signed_joined group o ≡ Some (s, rest) → (high : Signed)
    × (o ≡ Some (high, rest)) × (with_group group high ≡ Some s)
signed_joined_takes group s rest None e = absurd cc
signed_joined_takes group s rest (Some (high, behind)) e =
    let p = and_then_some (λ (t : Signed). Some (t, behind)) (with_group group high) (s, rest) e in
    let pair = some_is _ _ p.2 in (
      high,
      ap (λ (r : List ℕ). Some (high, r)) (ap (λ (x : Signed × List ℕ). x.1) pair),
      p.1
          ∙ ap (λ (t : Signed). Some t) (ap (λ (x : Signed × List ℕ). x.0) pair),
    )

last_group_spelled : (k b : ℕ) → b < 128 → signed_groups (suc k) (last_group b).negative (last_group b).number ≡ b ∷ []
last_group_spelled k b h =
    ⊎_elim (λ lt. rw (is_below b 64 lt, is_below b 64 lt) refl)
    (λ ge. let small : 127 - b < 64 = omega arith in let back : 127 - (127 - b) ≡ b = omega arith in
    rw (not_below b 64 ge, is_below (127 - b) 64 small, back) refl)
    (cases_lt b 64)

last_group_small : (b : ℕ) → b < 128 → (last_group b).number < 2 ^ 63
last_group_small b h = ⊎_elim (λ lt. rw (is_below b 64 lt) (omega arith)) (λ ge. rw (not_below b 64 ge) (omega arith)) (cases_lt b 64)

more_signed_spelled : (k b high : ℕ) (negative : Bool) → 128 ≤ b → b < 256 → 64 ≤ 128 * high + low_group negative (b - 128)
    → signed_groups (suc k) negative (128 * high + low_group negative (b - 128)) ≡ b ∷ signed_groups k negative high
more_signed_spelled k b high negative ge lt large =
    let group = low_group negative (b - 128) in
    let n = 128 * high + group in
    let small : group < 128 = low_group_small negative (b - 128) (omega arith) in
    let low : n % 128 ≡ group = omega arith in
    let rest : n / 128 ≡ high = omega arith in
    let back : low_group negative group ≡ b - 128 = low_group_back negative (b - 128) (omega arith) in
    let whole : 128 + (b - 128) ≡ b = omega arith in
    rw (not_below n 64 large, low, rest, back, whole) refl

pub signed_taken : (k : ℕ) (s : Signed) (bytes rest : List ℕ) → read_signed k bytes ≡ Some (s, rest) → (bytes ≡ signed_groups k s.negative s.number ++ rest)
    × (s.number < 2 ^ 63)
unfolding read_signed
signed_taken zero s bytes rest e = absurd cc
signed_taken (suc k) s [] rest e = absurd cc
signed_taken (suc k) s (b ∷ bytes) rest e =
    let family : Signed → Type 0 = λ t. (b ∷ bytes ≡ signed_groups (suc k) t.negative t.number ++ rest) × (t.number < 2 ^ 63) in
    elim (chosen (nat_lt b 128) (Some (last_group b, bytes)) _ (Some (s, rest)) e) [
      | inl (t, h) ↦
          let small : b < 128 = below b 128 t in
          let pair = some_is _ _ h in
          let behind : bytes ≡ rest = ap (λ (x : Signed × List ℕ). x.1) pair in
          subst family (ap (λ (x : Signed × List ℕ). x.0) pair) (rw (last_group_spelled k b small, behind) refl, last_group_small b small)
      | inr (f, h) ↦
          let large : 128 ≤ b = at_least b 128 f in
          let p = kept (nat_lt b 256) _ _ h in
          let lt : b < 256 = below b 256 p.0 in
          let j = signed_joined_takes (b - 128) s rest (read_signed k bytes) p.1 in
          let high = j.0 in
          let taken = signed_taken k high bytes rest j.1 in
          let w = with_group_taken (b - 128) high s j.2 in
          let fits : high.number < 2 ^ 56 = w.0 in
          let small : low_group high.negative (b - 128) < 128 = low_group_small high.negative (b - 128) (omega arith) in
          subst family w.2 (rw (more_signed_spelled k b high.number high.negative large lt w.1) (ap (λ (t : List ℕ). b ∷ t) taken.0), omega arith)
    ]

pub signed_fits : (s : Signed) (bytes rest : List ℕ) → read_signed 10 bytes ≡ Some (s, rest) → s.number < 2 ^ 63
signed_fits s bytes rest e = (signed_taken 10 s bytes rest e).1

last_group_again : (n : ℕ) (negative : Bool) → n < 64 → (low_group negative n < 128)
    × (last_group (low_group negative n) ≡ record { negative = negative; number = n })
last_group_again n false h = (omega arith, rw (is_below n 64 h) refl)
last_group_again n true h = (
  omega arith,
  let large : 64 ≤ 127 - n = omega arith in let back : 127 - (127 - n) ≡ n = omega arith in
      rw (not_below (127 - n) 64 large, back) refl,
)

pub signed_again : (k n : ℕ) (negative : Bool) (rest : List ℕ) → n < limit k 64 → n < 2 ^ 63
    → read_signed (suc k) (signed_groups (suc k) negative n ++ rest) ≡ Some (record { negative = negative; number = n }, rest)
unfolding read_signed
signed_again zero n negative rest h small = let g = last_group_again n negative h in rw (is_below n 64 h, is_below (low_group negative n) 128 g.0, g.1) refl
signed_again (suc k) n negative rest h small =
    ⊎_elim (λ b. let g = last_group_again n negative b in rw (is_below n 64 b, is_below (low_group negative n) 128 g.0, g.1) refl)
    (λ b.
    let group = low_group negative (n % 128) in
    let group_small : group < 128 = low_group_small negative (n % 128) (omega arith) in
    let ge : 128 ≤ 128 + group = omega arith in
    let lt : 128 + group < 256 = omega arith in
    let again = signed_again k (n / 128) negative rest (div_below n 128 (limit k 64) (lit< tt) h) (omega arith) in
    let fits : n / 128 < 2 ^ 56 = omega arith in
    let less : 128 + group - 128 ≡ group = omega arith in
    let back : low_group negative group ≡ n % 128 = low_group_back negative (n % 128) (omega arith) in
    let whole : 128 * (n / 128) + n % 128 ≡ n = omega arith in
    rw (
      not_below n 64 b,
      not_below (128 + group) 128 ge,
      is_below (128 + group) 256 lt,
      again,
      is_below (n / 128) (2 ^ 56) fits,
      less,
      back,
      whole,
      not_below n 64 b,
    ) refl)
    (cases_lt n 64)
