-- A number's groups: the next one, and the last.
use Rattle.std.proofs.Common.{◌≡◌, ℕ, zero, suc, ◌+◌, ◌*◌, ◌/◌, ◌%◌, ◌^◌, ◌<◌, ◌≤◌, Bool, List, [], ◌∷◌, ◌++◌, ⊎_elim, refl, ap, sym, ◌∙◌, lit<, arith}
use Rattle.std.proofs.lemmas.Bool.{cases_lt}
use Rattle.std.proofs.lemmas.Nat.{div_below}
use Rattle.std.proofs.lemmas.List.{append_assoc}
use Rattle.hy_object.proofs.Choices.{is_below, not_below}
use Rattle.hy_object.specs.Numbers.{groups, signed_groups, count_bytes, signed_bytes, low_group}

-- what one group holds, times 128 for each further one
abbrev pub limit : ℕ → ℕ → ℕ
limit zero last = last
limit (suc k) last = limit k last * 128

-- one more group than are needed changes nothing
groups_more : (k n : ℕ) → n < limit k 128 → groups (suc (suc k)) n ≡ groups (suc k) n
groups_more zero n h = rw (is_below n 128 h) refl
groups_more (suc k) n h =
    ⊎_elim (λ b. rw (is_below n 128 b) refl)
    (λ b. rw (not_below n 128 b) (ap (λ gs. (128 + n % 128) ∷ gs) (groups_more k (n / 128) (div_below n 128 (limit k 128) (lit< tt) h))))
    (cases_lt n 128)

signed_groups_more : (negative : Bool) (k n : ℕ) → n < limit k 64 → signed_groups (suc (suc k)) negative n ≡ signed_groups (suc k) negative n
signed_groups_more negative zero n h = rw (is_below n 64 h) refl
signed_groups_more negative (suc k) n h =
    ⊎_elim (λ b. rw (is_below n 64 b) refl)
    (λ b. rw (not_below n 64 b)
    (ap (λ gs. (128 + low_group negative (n % 128)) ∷ gs) (signed_groups_more negative k (n / 128) (div_below n 128 (limit k 64) (lit< tt) h))))
    (cases_lt n 64)

pub count_last : (n : ℕ) → n < 128 → count_bytes n ≡ n ∷ []
unfolding count_bytes
count_last n h = rw (is_below n 128 h) refl

pub count_more : (n : ℕ) → n < 2 ^ 32 → 128 ≤ n → count_bytes n ≡ (128 + n % 128) ∷ count_bytes (n / 128)
unfolding count_bytes
count_more n small h = rw (not_below n 128 h) (ap (λ gs. (128 + n % 128) ∷ gs) (sym (groups_more 3 (n / 128) (div_below n 128 _ (lit< tt) (omega arith)))))

pub signed_last : (negative : Bool) (n : ℕ) → n < 64 → signed_bytes negative n ≡ low_group negative n ∷ []
unfolding signed_bytes
signed_last negative n h = rw (is_below n 64 h) refl

pub signed_more : (negative : Bool) (n : ℕ) → n < 2 ^ 64 → 64 ≤ n → signed_bytes negative n ≡ (128 + low_group negative (n % 128)) ∷
    signed_bytes negative (n / 128)
unfolding signed_bytes
signed_more negative n small h =
    rw (not_below n 64 h)
    (ap (λ gs. (128 + low_group negative (n % 128)) ∷ gs) (sym (signed_groups_more negative 8 (n / 128) (div_below n 128 _ (lit< tt) (omega arith)))))

-- One more group was pushed: what is still to be written follows on it.
pub one_more : (was now xs rest all ys : List ℕ) (byte : ℕ) → was ++ all ≡ xs ++ ys → all ≡ byte ∷ rest → now ≡ was ++ byte ∷ [] → now ++ rest ≡ xs ++ ys
one_more was now xs rest all ys byte e h n = rw n (append_assoc was (byte ∷ []) rest ∙ sym (ap (λ t. was ++ t) h) ∙ e)

-- the last group was pushed
pub the_last : (was now xs all ys : List ℕ) (byte : ℕ) → was ++ all ≡ xs ++ ys → all ≡ byte ∷ [] → now ≡ was ++ byte ∷ [] → now ≡ xs ++ ys
the_last was now xs all ys byte e h n = n ∙ sym (ap (λ t. was ++ t) h) ∙ e
