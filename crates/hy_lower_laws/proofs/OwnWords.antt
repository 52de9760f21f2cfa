-- Instructions on words of the own frame, where no access is open and no word of the frame is the name of a block.
use Rattle.std.proofs.Common.{◌≡◌, ◌≢◌, ℕ, zero, suc, ◌+◌, ◌-◌, ◌<◌, ◌≤◌, ◌&&◌, Bool, true, false, not, ltb, eqb, None, ℤ, refl, sym, ap, ◌∙◌, arith}
use Rattle.std.proofs.lemmas.Bool.{le-leb, lt-ltb, ltb-true, eqb-true, eq-eqb, cond_both, and_parts, and_from, true≢false}
use Rattle.std.specs.Prelude.{neg_ℤ}
use Rattle.hy_object.specs.declared.object.Object.{Object}
use Rattle.hy_object.specs.declared.stuck.Kind.TheVariants as kind
use Rattle.hy_object.specs.Checks.{Reach, check, next, is_set, is_name, is_whole, is_nameless, may_read, may_write, meets, own_words, read_word, to_word}
use Rattle.hy_object.specs.Checks.{word_in, puts}
use Rattle.hy_object.specs.Checks.{store, transfers, only, lets_read, lets_write}
use Rattle.hy_object.specs.Checks as checks
use Rattle.hy_object.specs.States.{Cell, Word, Cells, Range, State, with_cells, window, within, all_below}
use Rattle.hy_object.specs.Words.{Computed, computed, const, calculate, negate, compare, invert, copy, move, truth, is_zero, fitting}
use Rattle.hy_lower.specs.Places.{own}

-- TABLES

-- by cases on whether a cell is one of a range
pub at_cells : (cells : ℕ → Cells) (r : Range) (new : Cells) (block at : ℕ) (P : Cell → Type 0)
    → (block ≡ r.block → r.from ≤ at → at < r.from + r.words → P (new (at - r.from)))
    → ((block ≡ r.block → r.from ≤ at → at < r.from + r.words → ⊥) → P (cells block at)) → P (with_cells cells r new block at)
at_cells cells r new block at P here there =
    cond_both (eqb block r.block && within r.from r.words at) (new (at - r.from)) (cells block at) P
    (λ e. let h = and_parts (eqb block r.block) (within r.from r.words at) e in
    let k = and_parts (ltb r.from (suc at)) (ltb at (r.from + r.words)) h.1 in
    let a = ltb-true r.from (suc at) k.0 in
    here (eqb-true block r.block h.0) (omega arith) (ltb-true at (r.from + r.words) k.1))
    (λ e. there (λ q a b. true≢false (sym (and_from (eqb block r.block) (within r.from r.words at) (eq-eqb block r.block q)
    (and_from (ltb r.from (suc at)) (ltb at (r.from + r.words)) (lt-ltb r.from (suc at) (omega arith)) (lt-ltb at (r.from + r.words) b))) ∙ e)))

pub all_true : (n : ℕ) (f : ℕ → Bool) → ((k : ℕ) → f k ≡ true) → all_below n f ≡ true
all_true zero f h = refl
all_true (suc n) f h = and_from (f n) (all_below n f) (h n) (all_true n f h)

-- WHERE NOTHING IS OPEN

pub record IsPlain (m : State) : Type 0 where
  pub closed : (name : ℕ) → m.access name ≡ None
  pub nameless : (at : ℕ) → is_name (m.cells m.now.frame at) ≡ false

abbrev pub IsOwn : State → ℕ → Type 0
IsOwn m w = w + 1 ≤ m.now.fun.words

module _ (m : State) (plain : IsPlain m) where
  may_read_is : (x : Reach) → may_read m x ≡ true
  may_read_is x = all_true m.counts.opened _ (λ name. ap (λ o. lets_read o name x) (plain.closed name))

  pub may_write_is : (w k : ℕ) → may_write m (checks.own m w k) ≡ true
  may_write_is w k = all_true m.counts.opened _ (λ name. ap (λ o. lets_write o name (checks.own m w k)) (plain.closed name))

  pub nameless_is : (w k : ℕ) → is_nameless m (checks.own m w k).range ≡ true
  nameless_is w k = all_true k _ (λ i. ap not (plain.nameless (w + i)))

  pub own_is : (w k : ℕ) (go : Reach → State) → w + k ≤ m.now.fun.words → own_words m w k go ≡ go (checks.own m w k)
  own_is w k go l = ap (λ b. check m kind.Range b (go (checks.own m w k))) (le-leb (w + k) m.now.fun.words l)

  pub read_is : (w : ℕ) (n : ℤ) (go : ℤ → State) → IsOwn m w → m.cells m.now.frame w ≡ Word n → read_word m w go ≡ go n
  read_is w n go l e =
      let x = checks.own m w 1 in
      let z : w + 0 ≡ w = omega arith in
      own_is w 1 (λ x. check m kind.Access (may_read m x) (word_in m (window m.cells x.range 0) go)) l
      ∙ ap (λ b. check m kind.Access b (word_in m (window m.cells x.range 0) go)) (may_read_is x)
      ∙ ap (λ c. word_in m c go) (ap (m.cells m.now.frame) z ∙ e)

  pub to_is : (w : ℕ) (go : Reach → State) → IsOwn m w → to_word m w go ≡ go (checks.own m w 1)
  to_is w go l = own_is w 1 (λ x. check m kind.Access (may_write m x) (go x)) l
      ∙ ap (λ b. check m kind.Access b (go (checks.own m w 1))) (may_write_is w 1)

  pub kept_is : (w : ℕ) (t : State) → check m kind.Lost (is_nameless m (checks.own m w 1).range) t ≡ t
  kept_is w t = ap (λ b. check m kind.Lost b t) (nameless_is w 1)

  -- INSTRUCTIONS

  pub const_is : (w : ℕ) (n : ℤ) → IsOwn m w → const m w n ≡ store m (checks.own m w 1) n
  const_is w n l = to_is w (λ x. check m kind.Lost (is_nameless m x.range) (store m x n)) l ∙ kept_is w (store m (checks.own m w 1) n)

  pub calculate_is : (object : Object) (w u span : ℕ) (x y : ℤ) (f : ℤ → ℤ → Computed) → IsOwn m w → IsOwn m u
      → m.cells m.now.frame w ≡ Word x → m.cells m.now.frame u ≡ Word y
      → calculate object m w w u span f ≡ computed object m (checks.own m w 1) span (f x y)
  calculate_is object w u span x y f l k e d =
      let r = checks.own m w 1 in
      let ends = λ (i j : ℤ). check m kind.Lost (is_nameless m r.range) (computed object m r span (f i j)) in
      to_is w (λ r. read_word m w (λ i. read_word m u (λ j. check m kind.Lost (is_nameless m r.range) (computed object m r span (f i j))))) l
      ∙ read_is w x (λ i. read_word m u (λ j. ends i j)) l e
      ∙ read_is u y (λ j. ends x j) k d
      ∙ kept_is w (computed object m r span (f x y))

  pub compare_is : (w u : ℕ) (x y : ℤ) (f : ℤ → ℤ → Bool) → IsOwn m w → IsOwn m u → m.cells m.now.frame w ≡ Word x → m.cells m.now.frame u ≡ Word y
      → compare m w w u f ≡ store m (checks.own m w 1) (truth (f x y))
  compare_is w u x y f l k e d =
      let r = checks.own m w 1 in
      let ends = λ (i j : ℤ). check m kind.Lost (is_nameless m r.range) (store m r (truth (f i j))) in
      to_is w (λ r. read_word m w (λ i. read_word m u (λ j. check m kind.Lost (is_nameless m r.range) (store m r (truth (f i j)))))) l
      ∙ read_is w x (λ i. read_word m u (λ j. ends i j)) l e
      ∙ read_is u y (λ j. ends x j) k d
      ∙ kept_is w (store m r (truth (f x y)))

  pub negate_is : (object : Object) (w span : ℕ) (x : ℤ) → IsOwn m w → m.cells m.now.frame w ≡ Word x
      → negate object m w w span ≡ computed object m (checks.own m w 1) span (fitting (neg_ℤ x))
  negate_is object w span x l e =
      let r = checks.own m w 1 in
      to_is w (λ r. read_word m w (λ n. check m kind.Lost (is_nameless m r.range) (computed object m r span (fitting (neg_ℤ n))))) l
      ∙ read_is w x (λ n. check m kind.Lost (is_nameless m r.range) (computed object m r span (fitting (neg_ℤ n)))) l e
      ∙ kept_is w (computed object m r span (fitting (neg_ℤ x)))

  pub invert_is : (w : ℕ) (x : ℤ) → IsOwn m w → m.cells m.now.frame w ≡ Word x → invert m w w ≡ store m (checks.own m w 1) (truth (is_zero x))
  invert_is w x l e =
      let r = checks.own m w 1 in
      to_is w (λ r. read_word m w (λ n. check m kind.Lost (is_nameless m r.range) (store m r (truth (is_zero n))))) l
      ∙ read_is w x (λ n. check m kind.Lost (is_nameless m r.range) (store m r (truth (is_zero n)))) l e
      ∙ kept_is w (store m r (truth (is_zero x)))

  -- a word that is set is copied
  pub copy_is : (to from : ℕ) → IsOwn m to → IsOwn m from → is_set (m.cells m.now.frame from) ≡ true
      → copy m (own to) (own from) 1 ≡ puts (next m) (checks.own m to 1).range (window m.cells (checks.own m from 1).range)
  copy_is to from l k e =
      let x = checks.own m to 1 in
      let y = checks.own m from 1 in
      let z : from + 0 ≡ from = omega arith in
      let t = puts (next m) x.range (window m.cells y.range) in
      let whole : is_whole m y.range ≡ true = and_from (is_set (m.cells m.now.frame (from + 0))) true (ap (λ k. is_set (m.cells m.now.frame k)) z ∙ e) refl in
      let lost = λ (b : Bool). check m kind.Lost b t in
      let named = λ (b : Bool). check m kind.Kind b (lost (is_nameless m x.range)) in
      let unset' = λ (b : Bool). check m kind.Unset b (named (is_nameless m y.range)) in
      to_is to (λ x. checks.reach m (own from) 1 (λ y. check m kind.Access (may_read m y) (check m kind.Unset (is_whole m y.range)
      (check m kind.Kind (is_nameless m y.range) (check m kind.Lost (is_nameless m x.range) (puts (next m) x.range (window m.cells y.range))))))) l
      ∙ own_is from 1 (λ y. check m kind.Access (may_read m y) (check m kind.Unset (is_whole m y.range)
      (check m kind.Kind (is_nameless m y.range) (check m kind.Lost (is_nameless m x.range) (puts (next m) x.range (window m.cells y.range)))))) k
      ∙ ap (λ b. check m kind.Access b (unset' (is_whole m y.range))) (may_read_is y)
      ∙ ap unset' whole
      ∙ ap named (nameless_is from 1)
      ∙ ap lost (nameless_is to 1)

  apart : (to from : ℕ) → to ≢ from → meets (checks.own m to 1).range (checks.own m from 1).range ≡ false
  apart to from n = grind arith

  -- a word that is set is moved to another
  pub move_is : (to from : ℕ) → to ≢ from → IsOwn m to → IsOwn m from → is_set (m.cells m.now.frame from) ≡ true
      → move m (own to) (own from) 1 ≡ transfers (next m) (checks.own m from 1).range (checks.own m to 1).range
  move_is to from n l k e =
      let x = checks.own m to 1 in
      let y = checks.own m from 1 in
      let z : from + 0 ≡ from = omega arith in
      let t = transfers (next m) y.range x.range in
      let whole : is_whole m y.range ≡ true = and_from (is_set (m.cells m.now.frame (from + 0))) true (ap (λ k. is_set (m.cells m.now.frame k)) z ∙ e) refl in
      let lost = λ (b : Bool). check m kind.Lost b t in
      let unset' = λ (b : Bool). check m kind.Unset b (lost (is_nameless m x.range)) in
      let used = λ (b : Bool). check m kind.Access b (unset' (is_whole m y.range)) in
      to_is to (λ x. checks.reach m (own from) 1 (λ y. check m kind.Range (not (meets x.range y.range)) (check m kind.Access (may_write m y)
      (check m kind.Unset (is_whole m y.range) (check m kind.Lost (is_nameless m x.range) (transfers (next m) y.range x.range)))))) l
      ∙ own_is from 1 (λ y. check m kind.Range (not (meets x.range y.range)) (check m kind.Access (may_write m y)
      (check m kind.Unset (is_whole m y.range) (check m kind.Lost (is_nameless m x.range) (transfers (next m) y.range x.range))))) k
      ∙ ap (λ b. check m kind.Range (not b) (used (may_write m y))) (apart to from n)
      ∙ ap used (may_write_is from 1)
      ∙ ap unset' whole
      ∙ ap lost (nameless_is to 1)
