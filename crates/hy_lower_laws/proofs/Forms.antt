-- Statements on locals of one word, each with its segment.
use Rattle.std.proofs.Common.{◌≡◌, ◌⊎◌, inl, inr, ⊎_elim, ℕ, suc, ◌+◌, ◌≤◌, Bool, true, false, [], ◌∷◌, ◌++◌, Option, Some, None, ℤ, refl, sym, ap, ◌∙◌}
use Rattle.std.proofs.Common.{subst, arith, slice_get}
use Rattle.hy_base.specs.declared.numbers.IntegerType.TheVariants.{Int}
use Rattle.hy_core.specs.Plain as plain
use Rattle.hy_core.specs.Values.{Val, Number, Truth}
use Rattle.hy_core.specs.Memory.{Key, key_eq, set_at, target_of, lending}
use Rattle.hy_core.specs.Memory as memory
use Rattle.hy_core.specs.Operators.{ordered, line_of}
use Rattle.hy_core.specs.Runs.{Interaction, Fetch, Perform, interpret, Return}
use Rattle.hy_core.specs.Runs as runs
use Rattle.hy_core.specs.Control.{Control, Setting, Form, Numbers, Flags, form, with_some, with_set, key, read, take, write, local_type, NotSet, Work}
use Rattle.hy_core.specs.Control as core
use Rattle.hy_core.specs.Statements.{does, constant, compares, prints, store_to}
use Rattle.hy_object.specs.declared.instr.Instr.{Instr}
use Rattle.hy_object.specs.declared.instr.Instr.TheVariants as instr
use Rattle.hy_object.specs.declared.object.Object.{Object}
use Rattle.hy_object.specs.Checks.{next}
use Rattle.hy_object.specs.States.{Word, State}
use Rattle.hy_object.specs.Words.{truth, compare, calculate, fitting}
use Rattle.hy_object.specs.Words as words
use Rattle.hy_object.specs.Steps as steps
use Rattle.hy_lower.specs.Frames.{Frame}
use Rattle.hy_lower.specs.Places.{own, place_at, size_at}
use Rattle.hy_lower.specs.Segments as segment
use Rattle.hy_lower.specs.Segments.{shown_as, span_at}
use Rattle.hy_lower_laws.proofs.Stands.{HasAt, At}
use Rattle.hy_lower_laws.proofs.OwnWords.{compare_is, read_is}
use Rattle.hy_lower_laws.proofs.Simulates.{Body, IsBody, IsWord, Linked, mach, plain_of, Follows, goes_on, wrong, stuck}
use Rattle.hy_lower_laws.proofs.Simulates.{leads_follows}
use Rattle.hy_lower_laws.proofs.WordSteps.{const_writes, stores_word, scratch_put, one, owned}
use Rattle.hy_lower_laws.proofs.Scalars.{Scalar, number, flag, whole_local, loads, stores}
use Rattle.hy_lower_laws.proofs.Calculations.{SameSpans, two_operands}

-- an operation gives this truth value, or nothing
abbrev pub IsOrNone : Option Bool → Bool → Type 0
IsOrNone r e = (r ≡ Some e) ⊎ (r ≡ None)

pub ordered_gives : (f : ℤ → ℤ → Bool) (u z : Form) (v w : Val) (m n : ℤ) → Scalar u v m → Scalar z w n → IsOrNone (ordered f v w) (f m n)
ordered_gives f u z v w m n (number _ e) (number _ d) = inl (ap (λ v. ordered f v w) e ∙ ap (ordered f (Number Int m)) d)
ordered_gives f u z v w m n (flag b _ e _) q = inr (ap (λ v. ordered f v w) e)
ordered_gives f u z v w m n (number _ e) (flag b _ d _) = inr (ap (λ v. ordered f v w) e ∙ ap (ordered f (Number Int m)) d)

-- SEGMENTS of whole locals of one word

module _ (b : Frame) where
  pub read_words : (l w to : ℕ) → IsWord b l w → segment.read b (whole_local l) to ≡ instr.Copy (own to) (own w) 1 ∷ []
  read_words l w to word =
      ap (λ h. instr.Copy (own to) (place_at h) (size_at b (slice_get b.locals l)) ∷ []) word.home
      ∙ ap (λ n. instr.Copy (own to) (own w) n ∷ []) (ap (size_at b) word.typed ∙ word.size)

  pub take_words : (l w to : ℕ) → IsWord b l w → segment.take b (whole_local l) to ≡ instr.Move (own to) (own w) 1 ∷ []
  take_words l w to word =
      ap (λ h. instr.Move (own to) (place_at h) (size_at b (slice_get b.locals l)) ∷ []) word.home
      ∙ ap (λ n. instr.Move (own to) (own w) n ∷ []) (ap (size_at b) word.typed ∙ word.size)

  pub write_words : (l w from : ℕ) → IsWord b l w → segment.write b (whole_local l) from ≡ instr.Move (own w) (own from) 1 ∷ []
  write_words l w from word =
      ap (λ h. instr.Move (place_at h) (own from) (size_at b (slice_get b.locals l)) ∷ []) word.home
      ∙ ap (λ n. instr.Move (own w) (own from) n ∷ []) (ap (size_at b) word.typed ∙ word.size)

  -- two operands, an instruction and a store
  pub two_words : (a c l wa wc wl : ℕ) (i : Instr) → IsWord b a wa → IsWord b c wc → IsWord b l wl
      → (segment.read b (whole_local a) b.scratch ++ (segment.read b (whole_local c) (suc b.scratch) ++ [])) ++ (i ∷ segment.write b (whole_local l) b.scratch)
      ≡ two_operands b.scratch wa wc wl i
  two_words a c l wa wc wl i ia ic il = λ j.
      (read_words a wa b.scratch ia j ++ (read_words c wc (suc b.scratch) ic j ++ [])) ++ (i ∷ write_words l wl b.scratch il j)

module _ (o : Object) (y : Body) (is : IsBody y) (p : Setting) (same : SameSpans o p) (tables : p.core.types ≡ y.frame.types)
    (c : Control) (s : memory.Cells) (pc : ℕ) (x : State) (k : Linked y c s x) where
  scratch_fits : y.frame.scratch + 1 ≤ y.object.words
  scratch_fits = let f = is.scratch in omega arith

  typed : (l w : ℕ) (word : IsWord y.frame l w) → local_type c.now.fun l ≡ Some word.type
  typed l w word = ap (λ f. local_type f l) k.core ∙ sym (is.locals l) ∙ word.typed

  -- what follows a segment of so many instructions
  next_at : (n m : ℕ) → n ≡ m → At y.frame y.object.code (pc + n) c.now.work → At y.frame y.object.code (pc + m) c.now.work
  next_at n m e at = subst (λ n. At y.frame y.object.code (pc + n) c.now.work) e at

  -- SET

  set_is : (l w : ℕ) (word : IsWord y.frame l w) (n : ℤ) (v : Val) → constant (form p.core.types word.type) n ≡ Some v
      → interpret lending (does p c (plain.Set (whole_local l) n)) s ≡ interpret lending (write p c (whole_local l) v Return) s
  set_is l w word n v e =
      ap (λ r. interpret lending (with_some c r (λ t. with_some c (constant (form p.core.types t) n)
      (λ v. Perform (runs.Store (record { key = key c l; path = [] }) v) (Return c)))) s) (typed l w word)
      ∙ ap (λ r. interpret lending (with_some c r (λ v. Perform (runs.Store (record { key = key c l; path = [] }) v) (Return c))) s) e
      ∙ sym (ap (λ r. interpret lending (with_some c r (λ t. Perform (runs.Store (record { key = key c l; path = [] }) v) (Return c))) s) (typed l w word))

  pub set_follows : (l w : ℕ) (word : IsWord y.frame l w) (n : ℤ) (v : Val) → constant (form p.core.types word.type) n ≡ Some v
      → Scalar (form y.frame.types word.type) v n → HasAt y.object.code pc (instr.Const y.frame.scratch n ∷ instr.Move (own w) (own y.frame.scratch) 1 ∷ [])
      → At y.frame y.object.code (suc (suc pc)) c.now.work → Follows o y (interpret lending (does p c (plain.Set (whole_local l) n)) s) (mach c pc x)
  set_follows l w word n v e scalar has at =
      let r = const_writes o y is c s pc x k y.frame.scratch n scratch_fits has.0 in
      let k1 = scratch_put o y is c s pc x k r.cells y.frame.scratch (Word n) (omega arith) refl r.puts in
      subst (λ r. Follows o y r (mach c pc x)) (sym (set_is l w word n v e))
      (leads_follows o y _ (mach c pc x) (mach c (suc pc) (record x { cells = r.cells })) r.leads
      (stores o y is c s (suc pc) (record x { cells = r.cells }) k1 p l w word v n scalar r.puts.here has.1.0 at))

  -- PRINT

  line_is : (f : Form) (v : Val) (n : ℤ) → Scalar f v n → line_of v ≡ Some (words.line_of (shown_as f) n)
  line_is f v n (number e d) = ap line_of d ∙ ap (λ f. Some (words.line_of (shown_as f) n)) (sym e)
  line_is f v n (flag true e d q) = ap line_of d ∙ ap (λ f. Some (words.line_of (shown_as f) (truth true))) (sym e)
      ∙ ap (λ n. Some (words.line_of (shown_as f) n)) (sym q)
  line_is f v n (flag false e d q) = ap line_of d ∙ ap (λ f. Some (words.line_of (shown_as f) (truth false))) (sym e)
      ∙ ap (λ n. Some (words.line_of (shown_as f) n)) (sym q)

  pub print_follows : (l w : ℕ) (word : IsWord y.frame l w)
      → HasAt y.object.code pc (instr.Copy (own y.frame.scratch) (own w) 1 ∷ instr.Print y.frame.scratch (shown_as (form y.frame.types word.type)) ∷ [])
      → At y.frame y.object.code (suc (suc pc)) c.now.work
      → Follows o y (interpret lending (read p c (whole_local l) (λ c v. prints c (line_of v))) s) (mach c pc x)
  print_follows l w word has at =
      loads o y is c s pc x k p l w y.frame.scratch word (omega arith) scratch_fits has.0 (λ c v. prints c (line_of v))
      (λ v n scalar r k1.
      let x1 : State = record x { cells = r.cells } in
      let f = form y.frame.types word.type in
      let c1 : Control = record c { output = c.output ++ words.line_of (shown_as f) n } in
      let lead = one o y is c s (suc pc) x1 k1 (mach c1 (suc (suc pc)) x1) (instr.Print y.frame.scratch (shown_as f)) has.1.0
      (read_is (mach c (suc pc) x1) (plain_of y c s (suc pc) x1 k1) y.frame.scratch n
      (λ n. let t = next (mach c (suc pc) x1) in record t { output = c.output ++ words.line_of (shown_as f) n })
      (owned o y is c s (suc pc) x1 k1 y.frame.scratch scratch_fits) r.puts.here) in
      subst (λ l. Follows o y (interpret lending (prints c l) s) (mach c (suc pc) x1)) (sym (line_is f v n scalar))
      (goes_on (suc (suc pc)) x1
      (record {
        going = k1.going;
        stop = k1.stop;
        core = k1.core;
        object = k1.object;
        closed = k1.closed;
        own = k1.own;
        holds = k1.holds;
        turns = k1.turns;
        core_alone = k1.core_alone;
        alone = k1.alone;
        role = k1.role;
        slots = k1.slots;
      })
      at lead))

  -- COMPARISONS

  -- of two integers, in an order
  pub compare_follows : (i : Instr) (f : ℤ → ℤ → Bool) (op : Val → Val → Option Bool) (a b l wa wb wl : ℕ) → IsWord y.frame a wa → IsWord y.frame b wb
      → (word : IsWord y.frame l wl) → form y.frame.types word.type ≡ Flags
      → ((u z : Form) (v w : Val) (m n : ℤ) → Scalar u v m → Scalar z w n → IsOrNone (op v w) (f m n))
      → ((z : State) → steps.does o z i ≡ compare z y.frame.scratch y.frame.scratch (suc y.frame.scratch) f)
      → HasAt y.object.code pc (two_operands y.frame.scratch wa wb wl i) → At y.frame y.object.code (suc (suc (suc (suc pc)))) c.now.work
      → Follows o y (interpret lending (compares p c (Some (whole_local l)) (whole_local a ∷ whole_local b ∷ []) op) s) (mach c pc x)
  compare_follows i f op a b l wa wb wl ia ib il kind gives act has at =
      let scratch = y.frame.scratch in
      let fits = is.scratch in
      loads o y is c s pc x k p a wa scratch ia (omega arith) (omega arith) has.0
      (λ c v. read p c (whole_local b) (λ c w. with_some c (op v w) (λ e. store_to p c (Some (whole_local l)) (Truth e))))
      (λ v m sv r k1.
      let x1 : State = record x { cells = r.cells } in
      loads o y is c s (suc pc) x1 k1 p b wb (suc scratch) ib (omega arith) (omega arith) has.1.0
      (λ c w. with_some c (op v w) (λ e. store_to p c (Some (whole_local l)) (Truth e)))
      (λ w n sw t k2.
      let x2 : State = record x { cells = t.cells } in
      let kept : t.cells x.now.frame scratch ≡ Word m = t.puts.there x.now.frame scratch (λ _ q. omega arith) ∙ r.puts.here in
      let done = act (mach c (suc (suc pc)) x2) ∙ compare_is (mach c (suc (suc pc)) x2) (plain_of y c s (suc (suc pc)) x2 k2) scratch (suc scratch) m n f
      (owned o y is c s (suc (suc pc)) x2 k2 scratch (omega arith)) (owned o y is c s (suc (suc pc)) x2 k2 (suc scratch) (omega arith)) kept t.puts.here in
      let u = stores_word o y is c s (suc (suc pc)) x2 k2 scratch (truth (f m n)) i has.1.1.0 done in
      let k3 = scratch_put o y is c s (suc (suc pc)) x2 k2 u.cells scratch (Word (truth (f m n))) (omega arith) refl u.puts in
      let x3 : State = record x { cells = u.cells } in
      ⊎_elim
      (λ e. subst (λ r. Follows o y (interpret lending (with_some c r (λ e. store_to p c (Some (whole_local l)) (Truth e))) s) (mach c (suc (suc pc)) x2))
      (sym e)
      (leads_follows o y _ (mach c (suc (suc pc)) x2) (mach c (suc (suc (suc pc))) x3) u.leads
      (stores o y is c s (suc (suc (suc pc))) x3 k3 p l wl il (Truth (f m n)) (truth (f m n)) (flag (f m n) kind refl refl) u.puts.here has.1.1.1.0 at)))
      (λ e. subst (λ r. Follows o y (interpret lending (with_some c r (λ e. store_to p c (Some (whole_local l)) (Truth e))) s) (mach c (suc (suc pc)) x2))
      (sym e)
      (wrong core.Stuck refl stuck))
      (gives (form y.frame.types ia.type) (form y.frame.types ib.type) v w m n sv sw)))
