-- The run of a built object is what the program does on its one frame.
use Rattle.std.proofs.Common.{◌≡◌, ◌≤◌, ◌<◌, ℕ, zero, suc, ◌+◌, ◌-◌, ◌==◌, not, Bool, true, false, cond, nat_le, nat_eq, List, [], ◌∷◌, ◌++◌, length, take}
use Rattle.std.proofs.Common.{drop, set, replicate, get_or, Option, Some, None, ℤ, ◌+ℤ◌, slice_get, slice_set, if◌then◌else◌, refl, ap, sym, ◌∙◌, subst}
use Rattle.std.proofs.Common.{arith, rules}
use Rattle.std.specs.List.{AllByRecursion}
use Rattle.std.specs.Prelude.{IsSomeAnd}
use Rattle.std.proofs.lemmas.List.{places, length-replicate, length-set, get_or-replicate, get_or-drop, get_or-take, set_split}
use Rattle.std.proofs.lemmas.Option.{slice_get-get_or}
use Rattle.hy_base.specs.declared.run.End.TheVariants as end
use Rattle.hy_base.specs.declared.run.TrapKind.TheVariants as trap
use Rattle.hy_base.specs.Numbers.{fits}
use Rattle.hy_object.specs.declared.object.Object.{Object}
use Rattle.hy_object.specs.declared.object.Fun.{Fun}
use Rattle.hy_object.specs.declared.instr.Place.{Place}
use Rattle.hy_object.specs.declared.instr.Instr.{Instr}
use Rattle.hy_object.specs.declared.instr.Instr.TheVariants as instr
use Rattle.hy_object.specs.declared.stuck.Kind.{Kind}
use Rattle.hy_object.specs.declared.stuck.Kind.TheVariants as kind
use Rattle.hy_object.specs.Checks as big
use Rattle.hy_object.specs.Checks.{Reach, span_of}
use Rattle.hy_object.specs.Controls as controls
use Rattle.hy_object.specs.Grammar.{IsInGrammar, IsInstr, IsFun, IsMain, bounds_of}
use Rattle.hy_object.specs.Runs as runs_of
use Rattle.hy_object.specs.Runs.{Run, Runs}
use Rattle.hy_object.specs.States as big_states
use Rattle.hy_object.specs.States.{Stop, Ended, Cells, nth, all_below, with_at, with_cells, moved}
use Rattle.hy_object.specs.Steps as big_steps
use Rattle.hy_object.specs.Words as instrs
use Rattle.hy_object.proofs.OneEnd as one_end
use Rattle.hy_object.proofs.Choices.{at_most, is_at_most}
use Rattle.hy_machine.specs.Built.{IsBuilt, IsBuiltInstr}
use Rattle.hy_machine.specs.Machine.{State, Cell, Unset, Word, check, stuck, ends, goes_on, word_in, read, reach, all_set, window, with_window, overlap}
use Rattle.hy_machine.specs.Machine.{add, leave, does, fetched, next, step, steps, begin, seen, code, IsSeen}
use Rattle.hy_machine.specs.Machine as program
use Rattle.hy_machine.proofs.Cells.{cell, cells_of, range, no_name, all_true, are_set, stored, none_set, meets_alike}
use Rattle.hy_machine.proofs.Ends.{ended_stays}
use Rattle.hy_machine.proofs.Windows.{length_window, move_is}

-- the state of the object's run, where the program is in this state
abbrev pub state_of : Fun → (cut : Bool) → State → big_states.State
state_of main cut s = record {
  now = record { number = 0; fun = main; place = s.place; frame = 0; role = big_states.Called 0 };
  callers = [];
  suspended = [];
  cells = cells_of s.frame;
  words = with_at (λ block. 0) 0 main.words;
  freed = λ block. cond (block == 0) s.counts.freed 0;
  slots = λ frame slot. big_states.Empty;
  access = λ name. None;
  input = s.input;
  cut = cut;
  output = s.output;
  left = s.left;
  counts = s.counts;
  journal = s.journal;
  stop = s.stop;
}

nth_is : {A : Type 0} (xs : List A) (k : ℕ) → nth xs k ≡ slice_get xs k
nth_is [] k = refl
nth_is (x ∷ xs) zero = refl
nth_is (x ∷ xs) (suc k) = nth_is xs k

-- ONE STEP

module _ (object : Object) (main : Fun) (cut : Bool) (s : State) (room : length s.frame ≡ main.words) where
  abbrev S : big_states.State
  S = state_of main cut s

  -- The two come to the same, and the frame has as many words as before.
  record Same (t : State) (T : big_states.State) : Type 0 where
    is : T ≡ state_of main cut t
    size : length t.frame ≡ main.words

  -- checks

  same_check : (why : Kind) (b b' : Bool) (go : State) (go' : big_states.State) → b' ≡ b → (b ≡ true → Same go go')
      → Same (check s why b go) (big.check S why b' go')
  same_check why true b' go go' e h = let next = h refl in record { is = ap (λ b. big.check S why b go') e ∙ next.is; size = next.size }
  same_check why false b' go go' e h = record { is = ap (λ b. big.check S why b go') e; size = room }

  -- a check that is passed always, and that the program does not make
  passes : (why : Kind) (b : Bool) (go : State) (go' : big_states.State) → b ≡ true → Same go go' → Same go (big.check S why b go')
  passes why b go go' e h = record { is = ap (λ b. big.check S why b go') e ∙ h.is; size = h.size }

  can_read : (x : Reach) → big.may_read S x ≡ true
  can_read x = all_true s.counts.opened (λ name. true) (λ i. refl)

  can_write : (from words : ℕ) → big.may_write S (big.own S from words) ≡ true
  can_write from words = all_true s.counts.opened (λ name. true) (λ i. refl)

  nameless : (from words : ℕ) → big.is_nameless S (range from words) ≡ true
  nameless from words =
      all_true words (λ i. not (big.is_name (cell (get_or s.frame (from + i) Unset)))) (λ i. ap not (no_name (get_or s.frame (from + i) Unset)))

  -- places

  same_reach : (p : Place) (words : ℕ) (go : State) (go' : Reach → big_states.State) → p.base ≡ 0
      → (p.offset + words ≤ length s.frame → Same go (go' (big.own S p.offset words))) →
      Same (reach s p words go) (big.reach S p words go')
  same_reach p words go go' own h =
      let in_frame : big.reach_from S p.base p.offset words go' ≡ big.reach_from S 0 p.offset words go' =
      ap (λ b. big.reach_from S b p.offset words go') own in
      let base : nat_eq p.base 0 ≡ true = rw own refl in
      let fit : nat_le (p.offset + words) main.words ≡ nat_le (p.offset + words) (length s.frame) = ap (nat_le (p.offset + words)) (sym room) in
      let inner = same_check kind.Range (nat_le (p.offset + words) (length s.frame)) (nat_le (p.offset + words) main.words) go
      (go' (big.own S p.offset words)) fit (λ b. h (at_most (p.offset + words) (length s.frame) b)) in
      let at_base : reach s p words go ≡ check s kind.Range (nat_le (p.offset + words) (length s.frame)) go =
      ap (λ b. check s kind.Slot b (check s kind.Range (nat_le (p.offset + words) (length s.frame)) go)) base in
      subst (λ t. Same t (big.reach S p words go')) (sym at_base) (record { is = in_frame ∙ inner.is; size = inner.size })

  to_own : (word words : ℕ) (go : State) (go' : Reach → big_states.State) → word + words ≤ main.words → Same go (go' (big.own S word words))
      → Same go (big.own_words S word words go')
  to_own word words go go' le h =
      passes kind.Range (nat_le (word + words) main.words) go (go' (big.own S word words)) (is_at_most (word + words) main.words le) h

  to_word : (word : ℕ) (go : State) (go' : Reach → big_states.State) → word + 1 ≤ main.words → Same go (go' (big.own S word 1))
      → Same go (big.to_word S word go')
  to_word word go go' le h =
      to_own word 1 go (λ x. big.check S kind.Access (big.may_write S x) (go' x)) le
      (passes kind.Access (big.may_write S (big.own S word 1)) go (go' (big.own S word 1)) (can_write word 1) h)

  same_word : (c : Cell) (go : ℤ → State) (go' : ℤ → big_states.State) → ((n : ℤ) → Same (go n) (go' n))
      → Same (word_in s (Some c) go) (big.word_in S (cell c) go')
  same_word Unset go go' h = record { is = refl; size = room }
  same_word (Word n) go go' h = h n

  same_read : (word : ℕ) (go : ℤ → State) (go' : ℤ → big_states.State) → word + 1 ≤ main.words → ((n : ℤ) → Same (go n) (go' n))
      → Same (read s word go) (big.read_word S word go')
  same_read word go go' le h =
      let there : slice_get s.frame word ≡ Some (get_or s.frame word Unset) = slice_get-get_or s.frame word Unset (omega (arith, room)) in
      let first : word + 0 ≡ word = omega arith in
      let in_cell : Same (read s word go) (big.word_in S (cell (get_or s.frame (word + 0) Unset)) go') =
      subst (λ o. Same (word_in s o go) (big.word_in S (cell (get_or s.frame (word + 0) Unset)) go')) (sym there)
      (subst (λ k. Same (word_in s (Some (get_or s.frame word Unset)) go) (big.word_in S (cell (get_or s.frame k Unset)) go')) (sym first)
      (same_word (get_or s.frame word Unset) go go' h)) in
      to_own word 1 (read s word go) (λ x. big.check S kind.Access (big.may_read S x) (big.word_in S (big_states.window S.cells x.range 0) go')) le
      (passes kind.Access (big.may_read S (big.own S word 1)) (read s word go) (big.word_in S (cell (get_or s.frame (word + 0) Unset)) go')
      (can_read (big.own S word 1)) in_cell)

  -- ends of a step

  behind : suc s.place ≡ s.place + 1
  behind = omega arith

  goes : (frame : List Cell) (cells : ℕ → Cells) → cells ≡ cells_of frame → length frame ≡ main.words
      → Same (goes_on s frame) (record (big.next S) { cells = cells })
  goes frame cells e l = record {
    is = λ j. record (big.goes_to S (behind j)) { cells = e j };
    size = l;
  }

  -- one word
  one_word : (to : ℕ) (n : ℤ) → to + 1 ≤ main.words
      → with_cells (cells_of s.frame) (range to 1) (big.only (big_states.Word n)) ≡ cells_of (set s.frame to (Word n))
  one_word to n le =
      let lt : to < length s.frame = omega (arith, room) in
      let one : suc to ≡ to + 1 = omega arith in
      let same : set s.frame to (Word n) ≡ with_window s.frame to (Word n ∷ []) = set_split s.frame to (Word n) lt
      ∙ ap (λ k. take to s.frame ++ (Word n ∷ drop k s.frame)) one in
      stored s.frame (Word n ∷ []) to 1 refl (omega (arith, room)) (big.only (big_states.Word n)) (λ i h. let z : i ≡ 0 = omega arith in rw z refl)
      ∙ ap cells_of (sym same)

  stores : (to : ℕ) (n : ℤ) → to + 1 ≤ main.words → Same (goes_on s (set s.frame to (Word n))) (big.store S (big.own S to 1) n)
  stores to n le =
      goes (set s.frame to (Word n)) (with_cells (cells_of s.frame) (range to 1) (big.only (big_states.Word n))) (one_word to n le)
      (length-set s.frame to (Word n) ∙ room)

  -- constants and sums

  same_const : (to : ℕ) (n : ℤ) → to + 1 ≤ main.words → Same (goes_on s (set s.frame to (Word n))) (instrs.const S to n)
  same_const to n le =
      to_word to (goes_on s (set s.frame to (Word n))) (λ x. big.check S kind.Lost (big.is_nameless S x.range) (big.store S x n)) le
      (passes kind.Lost (big.is_nameless S (range to 1)) (goes_on s (set s.frame to (Word n))) (big.store S (big.own S to 1) n) (nameless to 1)
      (stores to n le))

  same_sum : (to span : ℕ) (n : ℤ) → to + 1 ≤ main.words
      → Same (add s to (span_of (slice_get object.spans span)) n) (instrs.computed object S (big.own S to 1) span (instrs.fitting n))
  same_sum to span n le =
      elim (fits n) as (λ b. Same (if b then goes_on s (slice_set s.frame to (Word n)) else ends s
      (end.Trap trap.Overflow (span_of (slice_get object.spans span))))
      (instrs.computed object S (big.own S to 1) span (if b then instrs.Is n else instrs.Traps trap.Overflow)))
      [ true ↦ stores to n le | false ↦ record { is = ap (λ o. big.ends S (end.Trap trap.Overflow (span_of o))) (nth_is object.spans span); size = room } ]

  same_add : (to a b span : ℕ) → to + 1 ≤ main.words → a + 1 ≤ main.words → b + 1 ≤ main.words →
      Same (does object s (instr.Add to a b span)) (instrs.calculate object S to a b span (λ m n. instrs.fitting (m +ℤ n)))
  same_add to a b span to_in a_in b_in =
      let x : Reach = big.own S to 1 in
      let last : (m n : ℤ) → big_states.State =
      λ m n. big.check S kind.Lost (big.is_nameless S x.range) (instrs.computed object S x span (instrs.fitting (m +ℤ n))) in
      let sum : (m n : ℤ) → State = λ m n. add s to (span_of (slice_get object.spans span)) (m +ℤ n) in
      to_word to (does object s (instr.Add to a b span))
      (λ x. big.read_word S a
      (λ m. big.read_word S b (λ n. big.check S kind.Lost (big.is_nameless S x.range) (instrs.computed object S x span (instrs.fitting (m +ℤ n))))))
      to_in
      (same_read a (λ m. read s b (sum m)) (λ m. big.read_word S b (last m)) a_in (λ m. same_read b (sum m) (last m) b_in
      (λ n. passes kind.Lost (big.is_nameless S x.range) (sum m n) (instrs.computed object S x span (instrs.fitting (m +ℤ n))) (nameless to 1)
      (same_sum to span (m +ℤ n) to_in))))

  -- copies and moves

  whole : (from words : ℕ) → from + words ≤ length s.frame → big.is_whole S (range from words) ≡ all_set (window s.frame from words)
  whole from words h = are_set s.frame from words h

  kept : (frame new : List Cell) (to : ℕ) → to + length new ≤ length frame → length (with_window frame to new) ≡ length frame
  kept frame new to h = search (rules, places)

  window_is : (from words : ℕ) → from + words ≤ length s.frame → (i : ℕ) → i < words
      → cell (get_or s.frame (from + i) Unset) ≡ cell (get_or (window s.frame from words) i Unset)
  window_is from words h i lt = ap cell (sym (get_or-take words (drop from s.frame) i Unset lt ∙ get_or-drop from s.frame i Unset))

  moved_over : (to from words : ℕ) → to + words ≤ length s.frame → from + words ≤ length s.frame →
      with_cells (cells_of s.frame) (range to words) (big_states.window (cells_of s.frame) (range from words)) ≡ cells_of
      (with_window s.frame to (window s.frame from words))
  moved_over to from words t f =
      stored s.frame (window s.frame from words) to words (length_window s.frame from words f) t (big_states.window (cells_of s.frame) (range from words))
      (window_is from words f)

  moved_length : (to from words : ℕ) → to + words ≤ length s.frame → from + words ≤ length s.frame
      → length (with_window s.frame to (window s.frame from words)) ≡ length s.frame
  moved_length to from words t f = let l = length_window s.frame from words f in kept s.frame (window s.frame from words) to (omega (arith, l))

  same_copy : (to from : Place) (words : ℕ) → to.base ≡ 0 → from.base ≡ 0 → Same (does object s (instr.Copy to from words)) (instrs.copy S to from words)
  same_copy to from n to_own from_own =
      let w : List Cell = window s.frame from.offset n in
      let go : State = goes_on s (with_window s.frame to.offset w) in
      let x : Reach = big.own S to.offset n in
      let y : Reach = big.own S from.offset n in
      let last : big_states.State = big.puts (big.next S) x.range (big_states.window S.cells y.range) in
      let lost : big_states.State = big.check S kind.Lost (big.is_nameless S x.range) last in
      let named : big_states.State = big.check S kind.Kind (big.is_nameless S y.range) lost in
      let unset : big_states.State = big.check S kind.Unset (big.is_whole S y.range) named in
      let set_go : State = check s kind.Unset (all_set w) go in
      same_reach to n (reach s from n set_go)
      (λ x. big.check S kind.Access (big.may_write S x)
      (big.reach S from n (λ y. big.check S kind.Access (big.may_read S y) (big.check S kind.Unset (big.is_whole S y.range)
      (big.check S kind.Kind (big.is_nameless S y.range) (big.check S kind.Lost (big.is_nameless S x.range)
      (big.puts (big.next S) x.range (big_states.window S.cells y.range)))))))) to_own
      (λ t. passes kind.Access (big.may_write S x) (reach s from n set_go)
      (big.reach S from n (λ y. big.check S kind.Access (big.may_read S y) (big.check S kind.Unset (big.is_whole S y.range)
      (big.check S kind.Kind (big.is_nameless S y.range) (big.check S kind.Lost (big.is_nameless S x.range)
      (big.puts (big.next S) x.range (big_states.window S.cells y.range))))))) (can_write to.offset n)
      (same_reach from n set_go
      (λ y. big.check S kind.Access (big.may_read S y) (big.check S kind.Unset (big.is_whole S y.range)
      (big.check S kind.Kind (big.is_nameless S y.range) (big.check S kind.Lost (big.is_nameless S x.range)
      (big.puts (big.next S) x.range (big_states.window S.cells y.range)))))) from_own
      (λ f. passes kind.Access (big.may_read S y) set_go unset (can_read y)
      (same_check kind.Unset (all_set w) (big.is_whole S y.range) go named (whole from.offset n f)
      (λ _. passes kind.Kind (big.is_nameless S y.range) go lost (nameless from.offset n)
      (passes kind.Lost (big.is_nameless S x.range) go last (nameless to.offset n)
      (goes (with_window s.frame to.offset w) (with_cells S.cells x.range (big_states.window S.cells y.range)) (moved_over to.offset from.offset n t f)
      (moved_length to.offset from.offset n t f ∙ room))))))))

  moved_away : (to from words : ℕ) → to + words ≤ length s.frame → from + words ≤ length s.frame → overlap to from words ≡ false →
      moved (cells_of s.frame) (range from words) (range to words) ≡ cells_of
      (with_window (with_window s.frame from (replicate words Unset)) to (window s.frame from words))
  moved_away to from words t f apart =
      let mid : List Cell = with_window s.frame to (window s.frame from words) in
      let l = moved_length to from words t f in
      ap (λ cells. with_cells cells (range from words) big_states.unset) (moved_over to from words t f)
      ∙ stored mid (replicate words Unset) from words (length-replicate words Unset) (omega (arith, l)) big_states.unset
      (λ i lt. ap cell (sym (get_or-replicate words i Unset Unset lt)))
      ∙ ap cells_of (move_is s.frame to from words t f apart)

  cleared_length : (to from words : ℕ) → to + words ≤ length s.frame → from + words ≤ length s.frame →
      length (with_window (with_window s.frame from (replicate words Unset)) to (window s.frame from words)) ≡ length s.frame
  cleared_length to from words t f =
      let r = length-replicate words Unset in
      let w = length_window s.frame from words f in
      let l = kept s.frame (replicate words Unset) from (omega (arith, r)) in
      kept (with_window s.frame from (replicate words Unset)) (window s.frame from words) to (omega (arith, l, w)) ∙ l

  apart_alike : (to from words : ℕ) → not (big.meets (range to words) (range from words)) ≡ (if overlap to from words then false else true)
  apart_alike to from words = ap not (meets_alike to from words)
      ∙ (elim (overlap to from words) as (λ b. not b ≡ (if b then false else true)) [ true ↦ refl | false ↦ refl ])

  is_apart : (b : Bool) → (if b then false else true) ≡ true → b ≡ false
  is_apart true h = cc
  is_apart false h = refl

  same_move : (to from : Place) (words : ℕ) → to.base ≡ 0 → from.base ≡ 0 → Same (does object s (instr.Move to from words)) (instrs.move S to from words)
  same_move to from n to_own from_own =
      let w : List Cell = window s.frame from.offset n in
      let frame : List Cell = with_window (with_window s.frame from.offset (replicate n Unset)) to.offset w in
      let go : State = goes_on s frame in
      let x : Reach = big.own S to.offset n in
      let y : Reach = big.own S from.offset n in
      let last : big_states.State = big.transfers (big.next S) y.range x.range in
      let lost : big_states.State = big.check S kind.Lost (big.is_nameless S x.range) last in
      let unset : big_states.State = big.check S kind.Unset (big.is_whole S y.range) lost in
      let writable : big_states.State = big.check S kind.Access (big.may_write S y) unset in
      let set_go : State = check s kind.Unset (all_set w) go in
      let apart_go : State = check s kind.Range (if overlap to.offset from.offset n then false else true) set_go in
      same_reach to n (reach s from n apart_go)
      (λ x. big.check S kind.Access (big.may_write S x)
      (big.reach S from n (λ y. big.check S kind.Range (not (big.meets x.range y.range)) (big.check S kind.Access (big.may_write S y)
      (big.check S kind.Unset (big.is_whole S y.range) (big.check S kind.Lost (big.is_nameless S x.range) (big.transfers (big.next S) y.range x.range)))))))
      to_own
      (λ t. passes kind.Access (big.may_write S x) (reach s from n apart_go)
      (big.reach S from n (λ y. big.check S kind.Range (not (big.meets x.range y.range)) (big.check S kind.Access (big.may_write S y)
      (big.check S kind.Unset (big.is_whole S y.range) (big.check S kind.Lost (big.is_nameless S x.range) (big.transfers (big.next S) y.range x.range))))))
      (can_write to.offset n)
      (same_reach from n apart_go
      (λ y. big.check S kind.Range (not (big.meets x.range y.range)) (big.check S kind.Access (big.may_write S y)
      (big.check S kind.Unset (big.is_whole S y.range) (big.check S kind.Lost (big.is_nameless S x.range) (big.transfers (big.next S) y.range x.range)))))
      from_own
      (λ f. same_check kind.Range (if overlap to.offset from.offset n then false else true) (not (big.meets x.range y.range)) set_go writable
      (apart_alike to.offset from.offset n)
      (λ apart. passes kind.Access (big.may_write S y) set_go unset (can_write from.offset n)
      (same_check kind.Unset (all_set w) (big.is_whole S y.range) go lost (whole from.offset n f)
      (λ _. passes kind.Lost (big.is_nameless S x.range) go last (nameless to.offset n)
      (goes frame (moved S.cells y.range x.range) (moved_away to.offset from.offset n t f (is_apart (overlap to.offset from.offset n) apart))
      (cleared_length to.offset from.offset n t f ∙ room))))))))

  -- the end of `main`

  leaves_none : (word words : ℕ) → controls.leaves_none S (range word words) ≡ true
  leaves_none word words =
      all_true main.words (λ at. cond (big.is_name (cell (get_or s.frame at Unset))) (big_states.within word words at) true)
      (λ at. ap (λ b. cond b (big_states.within word words at) true) (no_name (get_or s.frame at Unset)))

  freed_once : (block : ℕ) → cond (block == 0) (suc s.counts.freed) (cond (block == 0) s.counts.freed 0) ≡ cond (block == 0) (suc s.counts.freed) 0
  freed_once block = elim (block == 0) as (λ b. cond b (suc s.counts.freed) (cond b s.counts.freed 0) ≡ cond b (suc s.counts.freed) 0) [
    | true ↦
        refl
    | false ↦ refl
  ]

  same_leave : (word : ℕ) → main.result ≡ 0 → word + main.result ≤ main.words → Same (leave s) (controls.leave S word)
  same_leave word none le =
      let x : Reach = big.own S word main.result in
      let last : big_states.State = controls.goes_back (controls.frees_frame S) [] in
      let lost : big_states.State = big.check S kind.Lost (controls.leaves_none S x.range) last in
      let closed : big_states.State = big.check S kind.Slot (controls.is_closed S) lost in
      let unset : big_states.State = big.check S kind.Unset (big.is_whole S x.range) closed in
      let no_words : big.is_whole S x.range ≡ true = ap (λ n. all_below n (λ i. big.is_set (big_states.window S.cells x.range i))) none in
      to_own word main.result (leave s)
      (λ x. big.check S kind.Access (big.may_write S x) (big.check S kind.Unset (big.is_whole S x.range) (controls.returns S x (big_states.Called 0) []))) le
      (passes kind.Access (big.may_write S x) (leave s) unset (can_write word main.result)
      (passes kind.Unset (big.is_whole S x.range) (leave s) closed no_words
      (passes kind.Slot (controls.is_closed S) (leave s) lost (all_true main.slots (λ k. true) (λ i. refl))
      (passes kind.Lost (controls.leaves_none S x.range) (leave s) last (leaves_none word main.result)
      (record { is = λ j. record last { freed = λ block. freed_once block j }; size = room })))))

  same_print : (word : ℕ) (shown : _) → word + 1 ≤ main.words → Same (does object s (instr.Print word shown)) (instrs.print S word shown)
  same_print word shown le =
      same_read word (λ n. program.print s (instrs.line_of shown n)) (λ n. let t = big.next S in record t { output = S.output ++ instrs.line_of shown n }) le
      (λ n. record { is = λ j. record (big.goes_to S (behind j)) { output = S.output ++ instrs.line_of shown n }; size = room })

  same_does : (spans funs : ℕ) (i : Instr) → IsInstr (bounds_of spans funs main) i → IsBuiltInstr i → main.result ≡ 0
      → Same (does object s i) (big_steps.does object S i)
  same_does spans funs (instr.Const to value) fit built none = same_const to value fit.0
  same_does spans funs (instr.Copy to from n) fit built none = same_copy to from n built.0 built.1
  same_does spans funs (instr.Move to from n) fit built none = same_move to from n built.0 built.1
  same_does spans funs (instr.Add to a b span) fit built none = same_add to a b span fit.0 fit.1.0 fit.1.1.0
  same_does spans funs (instr.Return word) fit built none = same_leave word none fit.0
  same_does spans funs (instr.Print word shown) fit built none = same_print word shown fit.0
  same_does spans funs _ fit built none = absurd built

-- MANY STEPS

-- what is seen of two states is the same
pub record Alike (s : State) (t : big_states.State) : Type 0 where
  pub input : t.input ≡ s.input
  pub output : t.output ≡ s.output
  pub counts : t.counts ≡ s.counts
  pub journal : t.journal ≡ s.journal
  pub stop : t.stop ≡ s.stop

-- an instruction that is allowed and built, where there is one
abbrev Fits : ℕ → ℕ → Fun → Option Instr → Type 0
Fits spans funs main None = Unit {0}
Fits spans funs main (Some i) = IsInstr (bounds_of spans funs main) i × IsBuiltInstr i

fits_at : (spans funs : ℕ) (main : Fun) (is : List Instr) → AllByRecursion (IsInstr (bounds_of spans funs main)) is → AllByRecursion IsBuiltInstr is
    → (k : ℕ) → Fits spans funs main (slice_get is k)
fits_at spans funs main [] fit built k = tt
fits_at spans funs main (i ∷ is) fit built zero = (fit.0, built.0)
fits_at spans funs main (i ∷ is) fit built (suc k) = fits_at spans funs main is fit.1 built.1 k

module _ (object : Object) (in_grammar : IsInGrammar object) (built : IsBuilt object) where
  abbrev main : Fun
  main = built.main

  main_is : big_steps.main_of object ≡ main
  main_is = ap (λ funs. big_steps.fun_of (nth funs 0)) built.only

  is_fun : IsFun (length object.spans) (length object.funs) main
  is_fun = (subst (AllByRecursion (IsFun (length object.spans) (length object.funs))) built.only in_grammar.funs).0

  no_result : main.result ≡ 0
  no_result =
      let m : IsSomeAnd (slice_get (main ∷ []) 0) IsMain = subst (λ funs. IsSomeAnd (slice_get funs 0) IsMain) built.only in_grammar.main in
      m.result

  code_is : code object ≡ main.code
  code_is = ap (λ funs. program.code_of (slice_get funs 0)) built.only

  abbrev Now : (cut : Bool) → State → big_states.State → Type 0
  Now cut t T = (T ≡ state_of main cut t) × (length t.frame ≡ main.words)

  same_some : (cut : Bool) (s : State) → length s.frame ≡ main.words → (o : Option Instr) → Fits (length object.spans) (length object.funs) main o →
      Now cut (fetched object s o) (big_steps.does_some object (state_of main cut s) o)
  same_some cut s room None fit = (refl, room)
  same_some cut s room (Some i) fit = let h = same_does object main cut s room (length object.spans) (length object.funs) i fit.0 fit.1 no_result in
      (h.is, h.size)

  same_from : (cut : Bool) (s : State) → length s.frame ≡ main.words → (o : Option Stop)
      → Now cut (next object s o) (big_steps.step_from object (state_of main cut s) o)
  same_from cut s room (Some e) = (refl, room)
  same_from cut s room None =
      let fit = fits_at (length object.spans) (length object.funs) main main.code is_fun.instrs built.code s.place in
      let h = same_some cut s room (slice_get main.code s.place) fit in
      let at_code : fetched object s (slice_get main.code s.place) ≡ fetched object s (slice_get (code object) s.place) =
      ap (λ is. fetched object s (slice_get is s.place)) (sym code_is) in
      subst (λ t. Now cut t (big_steps.does_some object (state_of main cut s) (nth main.code s.place))) at_code
      (subst (λ o. Now cut (fetched object s (slice_get main.code s.place)) (big_steps.does_some object (state_of main cut s) o))
      (sym (nth_is main.code s.place)) h)

  same_steps : (cut : Bool) (k : ℕ) (s : State) → length s.frame ≡ main.words
      → big_steps.steps object k (state_of main cut s) ≡ state_of main cut (steps object k s)
  same_steps cut zero s room = refl
  same_steps cut (suc k) s room = let h = same_from cut s room s.stop in ap (big_steps.steps object k) h.0 ∙ same_steps cut k (step object s) h.1

  -- the start

  none_freed : (block : ℕ) → ◌≡◌ {A = ℕ} 0 (cond (block == 0) 0 0)
  none_freed block = elim (block == 0) as (λ b. ◌≡◌ {A = ℕ} 0 (cond b 0 0)) [ true ↦ refl | false ↦ refl ]

  words_are : program.words_of (slice_get object.funs 0) ≡ main.words
  words_are = ap (λ funs. program.words_of (slice_get funs 0)) built.only

  same_start : (input : List ℕ) (cut : Bool) (n : ℕ) → big_steps.begin object input cut (suc n) ≡ state_of main cut (begin object input (suc n))
  same_start input cut n =
      let size : ℕ = program.words_of (slice_get object.funs 0) in
      λ j. record (big_steps.begin object input cut (suc n)) {
        now = record { number = 0; fun = main_is j; place = 0; frame = 0; role = big_states.Called 0 };
        words = with_at (λ block. 0) 0 (main_is j).words;
        cells = none_set size j;
        freed = λ block. none_freed block j;
      }

  room_of : (input : List ℕ) (n : ℕ) → length (begin object input (suc n)).frame ≡ main.words
  room_of input n = length-replicate (program.words_of (slice_get object.funs 0)) Unset ∙ words_are

  alike_as : (fun : Fun) (cut : Bool) (s : State) (t : big_states.State) → t ≡ state_of fun cut s → Alike s t
  alike_as fun cut s t e = record {
    input = ap (λ t. t.input) e;
    output = ap (λ t. t.output) e;
    counts = ap (λ t. t.counts) e;
    journal =
        ap (λ t. t.journal) e;
    stop = ap (λ t. t.stop) e;
  }

  -- What is seen of the program's machine is what is seen of the object's run.
  pub alike : (input : List ℕ) (cut : Bool) (n k : ℕ) → Alike (steps object k (begin object input n)) (runs_of.after object input cut n k)
  alike input cut zero k =
      let here = ended_stays object k (begin object input zero) (Ended end.Spent) refl in
      let there = one_end.ended_stays object k (big_steps.begin object input cut zero) (Ended end.Spent) refl in
      record {
        input = ap (λ t. t.input) there ∙ ap (λ s. s.input) (sym here);
        output = ap (λ t. t.output) there ∙ ap (λ s. s.output) (sym here);
        counts = ap (λ t. t.counts) there ∙ ap (λ s. s.counts) (sym here);
        journal = ap (λ t. t.journal) there ∙ ap (λ s. s.journal) (sym here);
        stop = ap (λ t. t.stop) there ∙ ap (λ s. s.stop) (sym here);
      }
  alike input cut (suc n) k =
      alike_as main cut (steps object k (begin object input (suc n))) (runs_of.after object input cut (suc n) k)
      (ap (big_steps.steps object k) (same_start input cut n) ∙ same_steps cut k (begin object input (suc n)) (room_of input n))

  seen_alike : (input : List ℕ) (s : State) (t : big_states.State) → Alike s t → (o : Option Stop) → runs_of.seen input t o ≡ seen input s o
  seen_alike input s t a None = refl
  seen_alike input s t a (Some e) =
      λ j. Some (record { output = a.output j; stop = e; taken = length input - length (a.input j); counts = a.counts j; journal = a.journal j })

  -- so a run of the one is a run of the other
  pub runs : (input : List ℕ) (cut : Bool) (n : ℕ) (run : Run) → IsSeen object input n run → Runs object input cut n run
  runs input cut n run (k, h) =
      let s : State = steps object k (begin object input n) in
      let t : big_states.State = runs_of.after object input cut n k in
      let a : Alike s t = alike input cut n k in
      (k, ap (runs_of.seen input t) a.stop ∙ seen_alike input s t a s.stop ∙ h)
