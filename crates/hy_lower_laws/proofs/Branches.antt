-- What a truth value decides: the branch of a choice, and whether a loop makes one more pass.
use Rattle.std.proofs.Common.{◌≡◌, ℕ, zero, suc, ◌+◌, Bool, true, false, [], ◌∷◌, ◌++◌, Some, ℤ, refl, sym, ap, ◌∙◌, subst, arith}
use Rattle.std.specs.Prelude.{if◌then◌else◌}
use Rattle.hy_base.specs.declared.run.End.TheVariants as end
use Rattle.hy_core.specs.Plain.{Stmts, If}
use Rattle.hy_core.specs.Values.{Val}
use Rattle.hy_core.specs.Memory.{lending}
use Rattle.hy_core.specs.Memory as memory
use Rattle.hy_core.specs.Runs.{Fetch, Interaction, interpret, Return}
use Rattle.hy_core.specs.Control.{Control, Setting, Work, Rest, Loop, Test, with_work, with_flag, key, turn, NotSet, form}
use Rattle.hy_core.specs.Control as core
use Rattle.hy_core.specs.Statements.{does, tested}
use Rattle.hy_object.specs.declared.instr.Instr.TheVariants as instr
use Rattle.hy_object.specs.declared.object.Object.{Object}
use Rattle.hy_object.specs.Checks.{goes_to, turn_of, ends}
use Rattle.hy_object.specs.States.{Word, State, nth}
use Rattle.hy_object.specs.Words.{truth}
use Rattle.hy_lower.specs.Places.{own}
use Rattle.hy_lower.specs.Segments.{test}
use Rattle.hy_lower.specs.Code.{length_all}
use Rattle.hy_lower_laws.proofs.Stands.{HasAt, At, StmtAt, choice_test, first_part, second_part, pass_at}
use Rattle.hy_lower_laws.proofs.Simulates.{Body, IsBody, IsWord, Linked, mach, Leads, Follows, goes_on, over, wrong, stuck, not_set, settles}
use Rattle.hy_lower_laws.proofs.Scalars.{Scalar, number, flag, fetches}
use Rattle.hy_lower_laws.proofs.Choices.{linked_work, unless_at, back_at, test_is, fits}

module _ (o : Object) (y : Body) (is : IsBody y) (p : Setting) (c : Control) (s : memory.Cells) (pc : ℕ) (x : State) (k : Linked y c s x) where
  -- A truth value is tested: what the core does with it, and the machine with the first scratch word.
  pub tests : (on w : ℕ) (word : IsWord y.frame on w) → nth y.object.code pc ≡ Some (instr.Copy (own y.frame.scratch) (own w) 1)
      → (go : Bool → Interaction Control)
      → ((b : Bool) (z : State) → Linked y c s z → z.cells z.now.frame y.frame.scratch ≡ Word (truth b)
      → Follows o y (interpret lending (go b) s) (mach c (suc pc) z))
      → Follows o y (interpret lending (Fetch (memory.whole (key c on)) (λ v. with_flag c v go)) s) (mach c pc x)
  tests on w word has go rest =
      fetches o y is c s pc x k on w y.frame.scratch word (omega arith) (fits o y is p c s pc x k) has (λ v. with_flag c v go) (wrong NotSet refl not_set)
      (λ v n scalar r k1. by v n scalar (record x { cells = r.cells }) k1 r.puts.here)
    where
      by : (v : Val) (n : ℤ) → Scalar (form y.frame.types word.type) v n → (z : State) → Linked y c s z → z.cells z.now.frame y.frame.scratch ≡ Word n
          → Follows o y (interpret lending (with_flag c v go) s) (mach c (suc pc) z)
      by v n (number _ e) z k1 d = subst (λ v. Follows o y (interpret lending (with_flag c v go) s) (mach c (suc pc) z)) (sym e) (wrong core.Stuck refl stuck)
      by v n (flag b _ e q) z k1 d =
          subst (λ v. Follows o y (interpret lending (with_flag c v go) s) (mach c (suc pc) z)) (sym e) (rest b z k1 (d ∙ ap Word q))

  pub if_follows : (on w : ℕ) (a b : Stmts) → IsWord y.frame on w → StmtAt y.frame y.object.code pc (If on a b) c.now.work
      → Follows o y (interpret lending (does p c (If on a b)) s) (mach c pc x)
  if_follows on w a b word r =
      let q = pc + 2 + length_all y.frame a + 1 in
      let has = subst (λ l. HasAt y.object.code pc (l ++ instr.JumpUnless y.frame.scratch q ∷ [])) (test_is o y is p c s pc x k on w word)
      (choice_test y.frame y.object.code pc on a b c.now.work r) in
      let e : pc + 2 ≡ suc (suc pc) = omega arith in
      let first = subst (λ n. At y.frame y.object.code n (Rest a c.now.work)) e (first_part y.frame y.object.code pc on a b c.now.work r) in
      let second = second_part y.frame y.object.code pc on a b c.now.work r in
      let go = λ (v : Bool). Return (with_work c (Rest (if v then a else b) c.now.work)) in
      tests on w word has.0 go (chosen q has.1.0 first second)
    where
      chosen : (q : ℕ) → nth y.object.code (suc pc) ≡ Some (instr.JumpUnless y.frame.scratch (pc + 2 + length_all y.frame a + 1))
          → At y.frame y.object.code (suc (suc pc)) (Rest a c.now.work) → At y.frame y.object.code (pc + 2 + length_all y.frame a + 1) (Rest b c.now.work)
          → (v : Bool) (z : State) → Linked y c s z → z.cells z.now.frame y.frame.scratch ≡ Word (truth v)
          → Follows o y (interpret lending (Return (with_work c (Rest (if v then a else b) c.now.work))) s) (mach c (suc pc) z)
      chosen q h first second true z k1 d =
          goes_on (suc (suc pc)) z (linked_work y c s z (Rest a c.now.work) k1) first
          (unless_at o y is p c s (suc pc) z k1 true (pc + 2 + length_all y.frame a + 1) d h (omega arith))
      chosen q h first second false z k1 d =
          goes_on (pc + 2 + length_all y.frame a + 1) z (linked_work y c s z (Rest b c.now.work) k1) second
          (unless_at o y is p c s (suc pc) z k1 false (pc + 2 + length_all y.frame a + 1) d h (omega arith))

  -- LOOPS

  -- a turn is taken, or the run is spent
  turns : (z : State) → Linked y c s z → (m : State) (first : ℕ) (w : Work) → At y.frame y.object.code first w → (n : ℕ) → c.turns ≡ n
      → Leads o m (turn_of (mach c (suc pc) z) n (λ t. goes_to t first))
      → Follows o y (interpret lending (turn c n (λ c. Return (with_work c w))) s) m
  turns z k1 m first w at zero e l = over (ends (mach c (suc pc) z) end.Spent) l (record {
    how = end.Spent;
    core = refl;
    machine = refl;
    output = refl;
    input = refl;
    turns = k1.turns;
    opened = refl;
  })
  turns z k1 m first w at (suc n) e l =
      let z2 : State = record z { counts = record (z.counts) { turns = suc z.counts.turns } } in
      let t = k1.turns in
      goes_on first z2 (record {
        going = k1.going;
        stop = k1.stop;
        core = k1.core;
        object = k1.object;
        closed = k1.closed;
        own = k1.own;
        holds = k1.holds;
        turns = omega arith;
        core_alone = k1.core_alone;
        alone = k1.alone;
        role = k1.role;
        slots = k1.slots;
      }) at l

  pub test_follows : (on w : ℕ) (head body : Stmts) (v : Work) → IsWord y.frame on w → At y.frame y.object.code pc (Test head on body v)
      → Follows o y (interpret lending (Fetch (memory.whole (key c on)) (λ u. with_flag c u (tested c head on body v))) s) (mach c pc x)
  test_follows on w head body v word (start, after, e, l) =
      let has = subst (λ is. HasAt y.object.code pc (is ++ instr.JumpIf y.frame.scratch l.first ∷ [])) (test_is o y is p c s pc x k on w word)
      (subst (λ n. HasAt y.object.code n (test y.frame on ++ instr.JumpIf y.frame.scratch l.first ∷ [])) e l.has_test) in
      tests on w word has.0 (tested c head on body v) (passes has.1.0)
    where
      passes : nth y.object.code (suc pc) ≡ Some (instr.JumpIf y.frame.scratch l.first)
          → (b : Bool) (z : State) → Linked y c s z → z.cells z.now.frame y.frame.scratch ≡ Word (truth b)
          → Follows o y (interpret lending (tested c head on body v b) s) (mach c (suc pc) z)
      passes h true z k1 d =
          let q = l.before in
          turns z k1 (mach c (suc pc) z) l.first (Rest body (Loop head on body v)) (pass_at y.frame y.object.code start after on head body v l) c.turns refl
          (back_at o y is p c s (suc pc) z k1 true l.first d h (omega arith))
      passes h false z k1 d =
          let q = l.is_after in
          let f : suc (suc pc) ≡ after = omega arith in
          let goes = back_at o y is p c s (suc pc) z k1 false l.first d h (let q = l.before in omega arith) in
          settles o y (interpret lending (Return (with_work c v)) s) (mach c (suc pc) z) after l.end z (linked_work y c s z v k1) l.goes l.next
          (subst (λ n. Leads o (mach c (suc pc) z) (mach c n z)) f goes)
