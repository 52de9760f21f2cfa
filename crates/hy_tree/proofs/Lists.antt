-- Loops that number parts that stand one after the other.
use Rattle.std.proofs.Common.{◌≡◌, ℕ, ◌+◌, ◌-◌, ◌^◌, min, ◌≤◌, ◌<◌, List, [], ◌∷◌, ◌++◌, length, get_or, drop, map, refl, ap, sym, ◌∙◌, append_assoc, arith}
use Rattle.std.proofs.lemmas.List.{drop_all, drop_more, map-append, append-nil}
use Rattle.hy_tree.specs.Numbers.{count_all, number_all}

-- Some of the first parts are made, those from `index` on are left, and `next` is the number for them.
pub record HasNumbered {R P : Type 0} (of : R → P) (count : P → ℕ) (number : ℕ → P → P) (before : ℕ) (parts : List R) (index : ℕ) (made : List R)
    (next : ℕ) : Type 0 where
  pub same : map of made ++ number_all count number next (map of (drop index parts)) ≡ number_all count number before (map of parts)
  pub sum : next + count_all count (map of (drop index parts)) ≡ before + count_all count (map of parts)

-- Some of the first parts are counted, and those from `index` on are left.
pub record HasCounted {R P : Type 0} (of : R → P) (count : P → ℕ) (before : ℕ) (parts : List R) (index total : ℕ) : Type 0 where
  pub sum : min (total + count_all count (map of (drop index parts))) (2 ^ 32 - 1) ≡ min (before + count_all count (map of parts)) (2 ^ 32 - 1)
  pub capped : total ≤ 2 ^ 32 - 1

module _ {R P : Type 0} (of : R → P) (count : P → ℕ) (number : ℕ → P → P) (before : ℕ) (parts : List R) where
  pub numbers_none : HasNumbered of count number before parts 0 [] before
  numbers_none = record { same = refl; sum = refl }

  pub numbers_one_more : (index next after : ℕ) (made : List R) (old new : R) → index < length parts → old ≡ get_or parts index old →
      (of new ≡ number next (of old)) × (after ≡ next + count (of old)) →
      HasNumbered of count number before parts index made next → HasNumbered of count number before parts (index + 1) (made ++ new ∷ []) after
  numbers_one_more index next after made old new within is step so_far =
      let rest = map of (drop (index + 1) parts) in
      let split : drop index parts ≡ old ∷ drop (index + 1) parts = drop_more parts index old within ∙ (λ k. (sym is) k ∷ drop (index + 1) parts) in
      record {
        same = (λ k. map-append of made (new ∷ []) k ++ number_all count number (step.1 k) rest) ∙
            append_assoc (map of made) (of new ∷ []) (number_all count number (next + count (of old)) rest) ∙
            (λ k. map of made ++ (step.0 k ∷ number_all count number (next + count (of old)) rest)) ∙
            (λ k. map of made ++ number_all count number next (map of ((sym split) k))) ∙ so_far.same;
        sum = (let e : count_all count (map of (drop index parts)) ≡ count (of old) + count_all count rest = ap (λ xs. count_all count (map of xs)) split in
            omega (arith, e, step.1, so_far.sum));
      }

  pub numbers_all : (index next : ℕ) (made : List R) → length parts ≤ index → HasNumbered of count number before parts index made next →
      (map of made ≡ number_all count number before (map of parts)) × (next ≡ before + count_all count (map of parts))
  numbers_all index next made beyond so_far =
      let e = drop_all index parts beyond in (
        sym (append-nil (map of made)) ∙ (λ k. map of made ++ number_all count number next (map of ((sym e) k))) ∙ so_far.same,
        (let f : count_all count (map of (drop index parts)) ≡ 0 = ap (λ xs. count_all count (map of xs)) e in omega (arith, f, so_far.sum)),
      )

  -- the end of a loop, for a list type of the tree
  pub numbers_closed : {L : Type 0} (close : List P → L) (count_list : L → ℕ) (number_list : ℕ → L → L) →
      ((n : ℕ) (ps : List P) → number_list n (close ps) ≡ close (number_all count number n ps))
      → ((ps : List P) → count_list (close ps) ≡ count_all count ps) →
      (index next : ℕ) (made : List R) → length parts ≤ index → HasNumbered of count number before parts index made next →
      (close (map of made) ≡ number_list before (close (map of parts))) × (next ≡ before + count_list (close (map of parts)))
  numbers_closed close count_list number_list numbered counted index next made beyond so_far =
      let h = numbers_all index next made beyond so_far in
      (ap close h.0 ∙ sym (numbered before (map of parts)), h.1 ∙ ap (λ k. before + k) (sym (counted (map of parts))))

module _ {R P : Type 0} (of : R → P) (count : P → ℕ) (before : ℕ) (parts : List R) where
  -- the end of a loop that counts, for a list type of the tree
  pub counts_closed : {L : Type 0} (close : List P → L) (count_list : L → ℕ) → ((ps : List P) → count_list (close ps) ≡ count_all count ps) →
      (index total : ℕ) → length parts ≤ index → HasCounted of count before parts index total
      → total ≡ min (before + count_list (close (map of parts))) (2 ^ 32 - 1)
  counts_closed close count_list counted index total beyond so_far =
      let none : count_all count (map of (drop index parts)) ≡ 0 = ap (λ xs. count_all count (map of xs)) (drop_all index parts beyond) in
      let all = counted (map of parts) in
      omega (arith, none, all, so_far.sum, so_far.capped)
