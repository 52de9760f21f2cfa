-- Each step of the core on whole locals of one word, by its form.
use Rattle.std.proofs.Common.{◌≡◌, ⊎_elim, ℕ, suc, ◌+◌, List, [], ◌∷◌, ◌++◌, Option, Some, None, ℤ, true, false, slice_get, refl, sym, ap, ◌∙◌, subst, arith}
use Rattle.std.specs.Prelude.{◌+ℤ◌, ◌-ℤ◌, ◌*ℤ◌, int_lt, int_le}
use Rattle.hy_base.specs.declared.numbers.IntegerType.TheVariants.{Int}
use Rattle.hy_base.specs.declared.numbers.Operation.TheVariants as operation
use Rattle.hy_core.specs.Plain as plain
use Rattle.hy_core.specs.Plain.{Place, Stmts, Done, Then, Stmt, Built, Set, If, While, Break, Continue, Add, Sub, Mul, Lt, Le, Print}
use Rattle.hy_core.specs.Values.{Number, Truth, Tuple, Product, No}
use Rattle.hy_core.specs.Memory.{lending}
use Rattle.hy_core.specs.Memory as memory
use Rattle.hy_core.specs.Operators.{operated, ordered}
use Rattle.hy_core.specs.Runs.{interpret}
use Rattle.hy_core.specs.Control.{Control, GivesUp, Setting, Work, Idle, Rest, Loop, Test, Drops, with_work, Form, Numbers, Flags, Tuples, Products, form}
use Rattle.hy_core.specs.Statements.{does, goes_on, interaction_of, constant}
use Rattle.hy_object.specs.declared.instr.Instr.TheVariants as instr
use Rattle.hy_object.specs.declared.object.Object.{Object}
use Rattle.hy_object.specs.States.{State}
use Rattle.hy_object.specs.Words.{fitting}
use Rattle.hy_lower.specs.Places.{own, place_at, form_at, size_at}
use Rattle.hy_lower.specs.Segments as segment
use Rattle.hy_lower.specs.Segments.{shown_as}
use Rattle.hy_lower.specs.Code.{constant_length}
use Rattle.hy_lower_laws.specs.WordSteps.{TwoWords, OneWord, NoWords, HasNoParts, IsConstant, IsWordBuilt, IsWordStmt, IsWordWork, WordStepsFollow, SameSpans}
use Rattle.hy_lower_laws.specs.WordSteps.{whole_local}
use Rattle.hy_lower_laws.proofs.Stands.{HasAt, At, StmtAt, first_at}
use Rattle.hy_lower_laws.proofs.Simulates.{Body, IsBody, Linked, mach, Follows}
use Rattle.hy_lower_laws.proofs.Scalars.{number, flag}
use Rattle.hy_lower_laws.proofs.Calculations.{arithmetic_follows, add_gives, sub_gives, mul_gives}
use Rattle.hy_lower_laws.proofs.Choices.{linked_work, done_follows, while_follows, loop_follows, break_follows, continue_follows}
use Rattle.hy_lower_laws.proofs.Branches.{if_follows, test_follows}
use Rattle.hy_lower_laws.proofs.Nothing.{nothing_set}
use Rattle.hy_lower_laws.proofs.Leaving.{leave_follows}
use Rattle.hy_lower_laws.proofs.Dropping.{word_drop, nothing_drop}
use Rattle.hy_lower_laws.proofs.Forms.{read_words, write_words, two_words, set_follows, print_follows, compare_follows, ordered_gives}

module _ (o : Object) (y : Body) (is : IsBody y) (p : Setting) (stage : p.stage ≡ GivesUp) (same : SameSpans o p) (tables : p.core.types ≡ y.frame.types)
    (c : Control) (s : memory.Cells) (pc : ℕ) (x : State) (k : Linked y c s x) where
  abbrev Comes : Stmt → Type 0
  Comes t = StmtAt y.frame y.object.code pc t c.now.work → Follows o y (interpret lending (does p c t) s) (mach c pc x)

  four : pc + 4 ≡ suc (suc (suc (suc pc)))
  four = omega arith

  two : pc + 2 ≡ suc (suc pc)
  two = omega arith

  -- with the places in their own shape
  as_two : (f : Form) (to : Option Place) (from : List Place) (r : TwoWords y.frame f to from) (P : Option Place → List Place → Type 0)
      → P (Some (whole_local r.target)) (whole_local r.first ∷ whole_local r.second ∷ []) → P to from
  as_two f to from r P h = subst (λ to. P to from) (sym r.is_to) (subst (P (Some (whole_local r.target))) (sym r.is_from) h)

  add_comes : (to : Option Place) (from : List Place) (spans : List ℕ) → IsWordBuilt y.frame Add to from spans → Comes (Built Add to from spans)
  add_comes to from [] (r, h) = absurd h
  add_comes to from (span ∷ (n ∷ ns)) (r, h) = absurd h
  add_comes to from (span ∷ []) (r, h) = as_two (Numbers Int) to from r (λ to from. Comes (Built Add to from (span ∷ []))) (λ at.
      let i = instr.Add y.frame.scratch y.frame.scratch (suc y.frame.scratch) span in
      arithmetic_follows o y is p same c s pc x k i span (λ m n. fitting (m +ℤ n)) (operated operation.Add) r.first r.second r.target r.first_word
      r.second_word r.target_word r.is_first r.is_second r.is_target r.kind add_gives (λ z. refl)
      (subst (HasAt y.object.code pc) (two_words y.frame r.first r.second r.target r.first_word r.second_word r.target_word i r.is_first r.is_second
      r.is_target) at.has)
      (subst (λ n. At y.frame y.object.code n c.now.work) four at.next))

  sub_comes : (to : Option Place) (from : List Place) (spans : List ℕ) → IsWordBuilt y.frame Sub to from spans → Comes (Built Sub to from spans)
  sub_comes to from [] (r, h) = absurd h
  sub_comes to from (span ∷ (n ∷ ns)) (r, h) = absurd h
  sub_comes to from (span ∷ []) (r, h) = as_two (Numbers Int) to from r (λ to from. Comes (Built Sub to from (span ∷ []))) (λ at.
      let i = instr.Sub y.frame.scratch y.frame.scratch (suc y.frame.scratch) span in
      arithmetic_follows o y is p same c s pc x k i span (λ m n. fitting (m -ℤ n)) (operated operation.Sub) r.first r.second r.target r.first_word
      r.second_word r.target_word r.is_first r.is_second r.is_target r.kind sub_gives (λ z. refl)
      (subst (HasAt y.object.code pc) (two_words y.frame r.first r.second r.target r.first_word r.second_word r.target_word i r.is_first r.is_second
      r.is_target) at.has)
      (subst (λ n. At y.frame y.object.code n c.now.work) four at.next))

  mul_comes : (to : Option Place) (from : List Place) (spans : List ℕ) → IsWordBuilt y.frame Mul to from spans → Comes (Built Mul to from spans)
  mul_comes to from [] (r, h) = absurd h
  mul_comes to from (span ∷ (n ∷ ns)) (r, h) = absurd h
  mul_comes to from (span ∷ []) (r, h) = as_two (Numbers Int) to from r (λ to from. Comes (Built Mul to from (span ∷ []))) (λ at.
      let i = instr.Mul y.frame.scratch y.frame.scratch (suc y.frame.scratch) span in
      arithmetic_follows o y is p same c s pc x k i span (λ m n. fitting (m *ℤ n)) (operated operation.Mul) r.first r.second r.target r.first_word
      r.second_word r.target_word r.is_first r.is_second r.is_target r.kind mul_gives (λ z. refl)
      (subst (HasAt y.object.code pc) (two_words y.frame r.first r.second r.target r.first_word r.second_word r.target_word i r.is_first r.is_second
      r.is_target) at.has)
      (subst (λ n. At y.frame y.object.code n c.now.work) four at.next))

  lt_comes : (to : Option Place) (from : List Place) (spans : List ℕ) → TwoWords y.frame Flags to from → Comes (Built Lt to from spans)
  lt_comes to from spans r = as_two Flags to from r (λ to from. Comes (Built Lt to from spans)) (λ at.
      let i = instr.Lt y.frame.scratch y.frame.scratch (suc y.frame.scratch) in
      compare_follows o y is p same tables c s pc x k i int_lt (ordered int_lt) r.first r.second r.target r.first_word
      r.second_word r.target_word r.is_first r.is_second r.is_target r.kind (ordered_gives int_lt) (λ z. refl)
      (subst (HasAt y.object.code pc) (two_words y.frame r.first r.second r.target r.first_word r.second_word r.target_word i r.is_first r.is_second
      r.is_target) at.has)
      (subst (λ n. At y.frame y.object.code n c.now.work) four at.next))

  le_comes : (to : Option Place) (from : List Place) (spans : List ℕ) → TwoWords y.frame Flags to from → Comes (Built Le to from spans)
  le_comes to from spans r = as_two Flags to from r (λ to from. Comes (Built Le to from spans)) (λ at.
      let i = instr.Le y.frame.scratch y.frame.scratch (suc y.frame.scratch) in
      compare_follows o y is p same tables c s pc x k i int_le (ordered int_le) r.first r.second r.target r.first_word
      r.second_word r.target_word r.is_first r.is_second r.is_target r.kind (ordered_gives int_le) (λ z. refl)
      (subst (HasAt y.object.code pc) (two_words y.frame r.first r.second r.target r.first_word r.second_word r.target_word i r.is_first r.is_second
      r.is_target) at.has)
      (subst (λ n. At y.frame y.object.code n c.now.work) four at.next))

  print_comes : (to : Option Place) (from : List Place) (spans : List ℕ) → IsWordBuilt y.frame Print to from spans → Comes (Built Print to from spans)
  print_comes to [] spans (e, h) = absurd h
  print_comes to (a ∷ (b ∷ bs)) spans (e, h) = absurd h
  print_comes to (a ∷ []) spans (e, w) =
      subst (λ to. Comes (Built Print to (a ∷ []) spans)) (sym e) (subst (λ a. Comes (Built Print None (a ∷ []) spans)) (sym w.is_place) (λ at.
      let S = y.frame.scratch in
      let shows : segment.built y.frame Print None (whole_local w.local ∷ []) spans
      ≡ instr.Copy (own S) (own w.word) 1 ∷ instr.Print S (shown_as (form y.frame.types w.is_word.type)) ∷ [] = λ j.
      (read_words y.frame w.local w.word S w.is_word j ++ []) ++ (instr.Print S (shown_as (form_at y.frame (w.is_word.typed j))) ∷ []) in
      print_follows o y is p same tables c s pc x k w.local w.word w.is_word (subst (HasAt y.object.code pc) shows at.has)
      (subst (λ n. At y.frame y.object.code n c.now.work) two at.next)))

  set_comes : (q : Place) (n : ℤ) → (w : OneWord y.frame q) × IsConstant (form y.frame.types w.is_word.type) n → Comes (Set q n)
  set_comes q n (w, h) = subst (λ q. Comes (Set q n)) (sym w.is_place) (λ at.
      let S = y.frame.scratch in
      let t = w.is_word.type in
      let size = ap (size_at y.frame) w.is_word.typed ∙ w.is_word.size in
      let stands : segment.set y.frame (whole_local w.local) n ≡ instr.Const S n ∷ instr.Move (own w.word) (own S) 1 ∷ [] = λ j.
      segment.constant y.frame (size j) n ++ write_words y.frame w.local w.word S w.is_word j in
      let long : pc + (constant_length (size_at y.frame (slice_get y.frame.locals w.local)) + 1) ≡ suc (suc pc) = ap (λ n. pc + (constant_length n + 1))
      size ∙ two in
      let has = subst (HasAt y.object.code pc) stands at.has in
      let next = subst (λ n. At y.frame y.object.code n c.now.work) long at.next in
      let forms = λ (f : Form) (e : form y.frame.types t ≡ f). ap (λ types. form types t) tables ∙ e in
      ⊎_elim
      (λ e. set_follows o y is p same tables c s pc x k w.local w.word w.is_word n (Number Int n) (ap (λ f. constant f n) (forms (Numbers Int) e))
      (number e refl) has next)
      (λ e. ⊎_elim
      (λ z. set_follows o y is p same tables c s pc x k w.local w.word w.is_word n (Truth false)
      (ap (λ f. constant f n) (forms Flags e.0) ∙ ap (constant Flags) z) (flag false e.0 refl z) has next)
      (λ z. set_follows o y is p same tables c s pc x k w.local w.word w.is_word n (Truth true)
      (ap (λ f. constant f n) (forms Flags e.0) ∙ ap (constant Flags) z) (flag true e.0 refl z) has next)
      e.1) h)

  nothing_comes : (q : Place) (n : ℤ) → (w : NoWords y.frame q) × HasNoParts (form y.frame.types w.is_nothing.type) → Comes (Set q n)
  nothing_comes q n (w, h) = subst (λ q. Comes (Set q n)) (sym w.is_place) (λ at.
      let S = y.frame.scratch in
      let z = w.is_nothing in
      let size = ap (size_at y.frame) z.typed ∙ z.size in
      let stands : segment.set y.frame (whole_local w.local) n ≡ instr.Move (own w.word) (own S) 0 ∷ [] = λ j.
      segment.constant y.frame (size j) n ++ (instr.Move (place_at (z.home j)) (own S) (size j) ∷ []) in
      let long : pc + (constant_length (size_at y.frame (slice_get y.frame.locals w.local)) + 1) ≡ suc pc = ap (λ n. pc + (constant_length n + 1)) size ∙
      omega arith in
      let has = subst (HasAt y.object.code pc) stands at.has in
      let next = subst (λ n. At y.frame y.object.code n c.now.work) long at.next in
      let below = is.nothing w.local w.word z in
      let f = is.scratch in
      let forms = λ (f : Form) (e : form y.frame.types z.type ≡ f). ap (λ t. constant t n) (ap (λ types. form types z.type) tables ∙ e) in
      ⊎_elim
      (λ e. nothing_set o y is p c s pc x k w.local w.word z n (Tuple No) (forms (Tuples []) e) (omega arith) has.0 next)
      (λ e. nothing_set o y is p c s pc x k w.local w.word z n (Product e.0 No) (forms (Products e.0 []) e.1) (omega arith) has.0 next)
      h)

  leave_comes : (q : Place) → NoWords y.frame q → Comes (plain.Leave q)
  leave_comes q w = subst (λ q. Comes (plain.Leave q)) (sym w.is_place) (λ at.
      let S = y.frame.scratch in
      let z = w.is_nothing in
      let size = ap (size_at y.frame) z.typed ∙ z.size in
      let stands : segment.leave y.frame (whole_local w.local) ≡ instr.Move (own S) (own w.word) 0 ∷ instr.Return S ∷ [] = λ j.
      (instr.Move (own S) (place_at (z.home j)) (size j) ∷ []) ++ instr.Return S ∷ [] in
      let below = is.nothing w.local w.word z in
      let f = is.scratch in
      leave_follows o y is p c s pc x k w.local w.word z (omega arith) (subst (HasAt y.object.code pc) stands at.has))

  built_comes : (t : plain.Operator) (to : Option Place) (from : List Place) (spans : List ℕ) → IsWordBuilt y.frame t to from spans → Comes (Built t to
      from spans)
  built_comes Add to from spans h = add_comes to from spans h
  built_comes Sub to from spans h = sub_comes to from spans h
  built_comes Mul to from spans h = mul_comes to from spans h
  built_comes plain.Div to from spans h = absurd h
  built_comes plain.Rem to from spans h = absurd h
  built_comes plain.Neg to from spans h = absurd h
  built_comes (plain.Convert t) to from spans h = absurd h
  built_comes plain.Eq to from spans h = absurd h
  built_comes Lt to from spans h = lt_comes to from spans h
  built_comes Le to from spans h = le_comes to from spans h
  built_comes plain.Not to from spans h = absurd h
  built_comes plain.NewArray to from spans h = absurd h
  built_comes plain.Push to from spans h = absurd h
  built_comes plain.Pop to from spans h = absurd h
  built_comes plain.Swap to from spans h = absurd h
  built_comes plain.Count to from spans h = absurd h
  built_comes plain.FreeArray to from spans h = absurd h
  built_comes Print to from spans h = print_comes to from spans h
  built_comes plain.Read to from spans h = absurd h
  built_comes plain.Check to from spans h = absurd h

  pub statement_comes : (t : Stmt) → IsWordStmt y.frame t → Comes t
  statement_comes (Built t to from spans) h = built_comes t to from spans h
  statement_comes (Set q n) h = ⊎_elim (λ w. set_comes q n w) (λ w. nothing_comes q n w) h
  statement_comes (plain.Lend to q w) h = absurd h
  statement_comes (plain.Close l) h = absurd h
  statement_comes (plain.Move to from) h = absurd h
  statement_comes (plain.Copy to from) h = absurd h
  statement_comes (plain.Drop q) h = ⊎_elim
      (λ w. subst (λ q. Comes (plain.Drop q)) (sym w.is_place) (word_drop o y is p stage c s pc x k w.local w.word w.is_word))
      (λ w. subst (λ q. Comes (plain.Drop q)) (sym w.is_place) (nothing_drop o y is p stage c s pc x k w.local w.word w.is_nothing)) h
  statement_comes (plain.Call n lent owned to) h = absurd h
  statement_comes (plain.Project n lent owned to) h = absurd h
  statement_comes (plain.Slide l) h = absurd h
  statement_comes (plain.Yield l) h = absurd h
  statement_comes (If on a b) (w, word) = if_follows o y is p c s pc x k on w a b word
  statement_comes (While head on body) h = while_follows o y is p c s pc x k on head body
  statement_comes Break h = break_follows o y is p c s pc x k
  statement_comes Continue h = continue_follows o y is p c s pc x k
  statement_comes (plain.Leave from) h = leave_comes from h

work_comes : (o : Object) (y : Body) (is : IsBody y) (p : Setting) (stage : p.stage ≡ GivesUp) (same : SameSpans o p) (tables : p.core.types ≡ y.frame.types)
    (c : Control) (s : memory.Cells) (pc : ℕ) (x : State) (k : Linked y c s x) (w : Work) → At y.frame y.object.code pc w → IsWordWork y.frame w
    → Follows o y (interpret lending (goes_on p c w) s) (mach c pc x)
work_comes o y is p stage same tables c s pc x k Idle at h = absurd h
work_comes o y is p stage same tables c s pc x k (Rest Done w) at h = done_follows o y is p c s pc x k w at
work_comes o y is p stage same tables c s pc x k (Rest (Then t ss) w) at h =
    let c1 = with_work c (Rest ss w) in
    statement_comes o y is p stage same tables c1 s pc x (linked_work y c s x (Rest ss w) k) t h (first_at y.frame y.object.code pc t ss w at)
work_comes o y is p stage same tables c s pc x k (Loop head on body w) at h = loop_follows o y is p c s pc x k on head body w at
work_comes o y is p stage same tables c s pc x k (Test head on body w) at (u, word) = test_follows o y is p c s pc x k on u head body w word at
work_comes o y is p stage same tables c s pc x k (Drops ts w) at h = absurd h

pub word_steps_follow : WordStepsFollow
word_steps_follow o y is p stage same tables c s pc x k at h =
    subst (λ r. Follows o y (interpret lending (interaction_of p c r) s) (mach c pc x)) (sym k.going)
    (work_comes o y is p stage same tables c s pc x k c.now.work at h)
