-- Choices and loops: the machine goes where the core goes, and takes a turn where it takes one.
use Rattle.std.proofs.Common.{◌≡◌, ℕ, suc, ◌+◌, ◌<◌, ◌≤◌, Bool, true, false, not, cond, [], ◌∷◌, Option, Some, None, refl, sym, ap, ◌∙◌, subst, arith}
use Rattle.std.proofs.lemmas.Bool.{lt-ltb, le-ltb}
use Rattle.std.specs.Prelude.{if◌then◌else◌}
use Rattle.hy_core.specs.Plain.{Stmts, Done, While, Break, Continue}
use Rattle.hy_core.specs.Memory.{lending}
use Rattle.hy_core.specs.Memory as memory
use Rattle.hy_core.specs.Runs.{interpret, Return}
use Rattle.hy_core.specs.Control.{Control, Setting, Work, Idle, Rest, Loop, Test, with_work, with_flag, with_some, turn, stop, NotSet, Form, form, Ends}
use Rattle.hy_core.specs.Control as core
use Rattle.hy_core.specs.Statements.{does, broken, continued}
use Rattle.hy_object.specs.declared.instr.Instr.TheVariants as instr
use Rattle.hy_object.specs.declared.object.Object.{Object}
use Rattle.hy_object.specs.Checks.{goes_to, take_turn, turn_of}
use Rattle.hy_object.specs.Controls.{jump_where, jump_if, jump_unless}
use Rattle.hy_object.specs.States.{Word, State, nth}
use Rattle.hy_object.specs.Words.{truth, is_zero}
use Rattle.hy_lower.specs.Places.{own, place_at}
use Rattle.hy_lower.specs.Segments.{test}
use Rattle.hy_lower.specs.Code.{length_all}
use Rattle.hy_lower_laws.proofs.Stands.{At, StmtAt, goes_from, loop_jump, loop_at}
use Rattle.hy_lower_laws.proofs.Stands.{head_at, break_at, continue_at}
use Rattle.hy_lower_laws.proofs.OwnWords.{read_is}
use Rattle.hy_lower_laws.proofs.Simulates.{Body, IsBody, IsWord, Linked, mach, plain_of, Leads, leads_none, Follows, goes_on, wrong, stuck}
use Rattle.hy_lower_laws.proofs.Simulates.{settles}
use Rattle.hy_lower_laws.proofs.WordSteps.{one, owned}

-- another control of the same activation
pub linked_work : (y : Body) (c : Control) (s : memory.Cells) (x : State) (w : Work) → Linked y c s x → Linked y (with_work c w) s x
linked_work y c s x w k = record {
  going = k.going;
  stop = k.stop;
  core = k.core;
  object = k.object;
  closed = k.closed;
  own = k.own;
  holds = k.holds;
  turns
      = k.turns;
  core_alone = k.core_alone;
  alone = k.alone;
  role = k.role;
  slots = k.slots;
}

module _ (o : Object) (y : Body) (is : IsBody y) (p : Setting) (c : Control) (s : memory.Cells) (pc : ℕ) (x : State) (k : Linked y c s x) where
  -- the core stands somewhere else, and so does the machine
  pub stands : (w : Work) (q : ℕ) → At y.frame y.object.code q w → Leads o (mach c pc x) (mach c q x)
      → Follows o y (interpret lending (Return (with_work c w)) s) (mach c pc x)
  stands w q at l = goes_on q x (linked_work y c s x w k) at l

  pub done_follows : (w : Work) → At y.frame y.object.code pc (Rest Done w) → Follows o y (interpret lending (Return (with_work c w)) s) (mach c pc x)
  done_follows w r =
      let e : pc + 0 ≡ pc = omega arith in
      settles o y (interpret lending (Return (with_work c w)) s) (mach c pc x) pc r.end x (linked_work y c s x w k)
      (goes_from y.object.code (pc + 0) pc r.end e r.goes) r.next (leads_none o (mach c pc x))

  -- a jump that goes forward
  pub hops : (q : ℕ) → nth y.object.code pc ≡ Some (instr.Jump q) → pc < q → Leads o (mach c pc x) (mach c q x)
  hops q h l = one o y is c s pc x k (mach c q x) (instr.Jump q) h
      (ap (λ b. cond b (mach c q x) (take_turn (mach c pc x) (λ t. goes_to t q))) (lt-ltb pc q l))

  pub while_follows : (on : ℕ) (head body : Stmts) → StmtAt y.frame y.object.code pc (While head on body) c.now.work
      → Follows o y (interpret lending (does p c (While head on body)) s) (mach c pc x)
  while_follows on head body r =
      let q = pc + 1 + length_all y.frame body in
      stands (Loop head on body c.now.work) q (loop_at y.frame y.object.code pc on head body c.now.work r)
      (hops q (loop_jump y.frame y.object.code pc on head body c.now.work r) (omega arith))

  pub loop_follows : (on : ℕ) (head body : Stmts) (w : Work) → At y.frame y.object.code pc (Loop head on body w)
      → Follows o y (interpret lending (Return (with_work c (Rest head (Test head on body w)))) s) (mach c pc x)
  loop_follows on head body w at =
      stands (Rest head (Test head on body w)) pc (head_at y.frame y.object.code pc on head body w at) (leads_none o (mach c pc x))

  pub break_follows : StmtAt y.frame y.object.code pc Break c.now.work → Follows o y (interpret lending (does p c Break) s) (mach c pc x)
  break_follows r = by (broken c.now.work) refl
    where
      by : (v : Option Work) → broken c.now.work ≡ v → Follows o y (interpret lending (does p c Break) s) (mach c pc x)
      by None e = subst (λ v. Follows o y (interpret lending (with_some c v (λ w. Return (with_work c w))) s) (mach c pc x)) (sym e) (wrong core.Stuck refl
          stuck)
      by (Some v) e =
          let b = break_at y.frame y.object.code (pc + 1) r.after r.again c.now.work v e r.inside in
          subst (λ v. Follows o y (interpret lending (with_some c v (λ w. Return (with_work c w))) s) (mach c pc x)) (sym e)
          (settles o y (interpret lending (Return (with_work c v)) s) (mach c pc x) r.after b.0 x (linked_work y c s x v k) b.2 b.3
          (hops r.after r.has.0 (let l = b.1 in omega arith)))

  pub continue_follows : StmtAt y.frame y.object.code pc Continue c.now.work → Follows o y (interpret lending (does p c Continue) s) (mach c pc x)
  continue_follows r = by (continued c.now.work) refl
    where
      by : (v : Option Work) → continued c.now.work ≡ v → Follows o y (interpret lending (does p c Continue) s) (mach c pc x)
      by None e = subst (λ v. Follows o y (interpret lending (with_some c v (λ w. Return (with_work c w))) s) (mach c pc x)) (sym e) (wrong core.Stuck refl
          stuck)
      by (Some v) e =
          let b = continue_at y.frame y.object.code (pc + 1) r.after r.again c.now.work v e r.inside in
          subst (λ v. Follows o y (interpret lending (with_some c v (λ w. Return (with_work c w))) s) (mach c pc x)) (sym e)
          (stands v r.again b.1 (hops r.again r.has.0 (let l = b.0 in omega arith)))

  -- TESTS

  pub fits : y.frame.scratch + 1 ≤ y.object.words
  fits = let f = is.scratch in omega arith

  -- the test of a local in words
  pub test_is : (on w : ℕ) → IsWord y.frame on w → test y.frame on ≡ instr.Copy (own y.frame.scratch) (own w) 1 ∷ []
  test_is on w word = ap (λ h. instr.Copy (own y.frame.scratch) (place_at h) 1 ∷ []) word.home

  -- where the first scratch word has a truth value
  pub unless_at : (b : Bool) (q : ℕ) → x.cells x.now.frame y.frame.scratch ≡ Word (truth b) → nth y.object.code pc ≡ Some (instr.JumpUnless y.frame.scratch
      q) → pc < q
      → Leads o (mach c pc x) (mach c (if b then suc pc else q) x)
  unless_at b q d h l = by b d
    where
      read : (b : Bool) → x.cells x.now.frame y.frame.scratch ≡ Word (truth b)
          → jump_unless (mach c pc x) y.frame.scratch q ≡ jump_where (mach c pc x) (is_zero (truth b)) q
      read b d = read_is (mach c pc x) (plain_of y c s pc x k) y.frame.scratch (truth b) (λ n. jump_where (mach c pc x) (is_zero n) q)
          (owned o y is c s pc x k y.frame.scratch fits) d

      by : (b : Bool) → x.cells x.now.frame y.frame.scratch ≡ Word (truth b) → Leads o (mach c pc x) (mach c (if b then suc pc else q) x)
      by true d = one o y is c s pc x k (mach c (suc pc) x) (instr.JumpUnless y.frame.scratch q) h (read true d)
      by false d = one o y is c s pc x k (mach c q x) (instr.JumpUnless y.frame.scratch q) h
          (read false d ∙ ap (λ b. cond b (mach c q x) (take_turn (mach c pc x) (λ t. goes_to t q))) (lt-ltb pc q l))

  -- a jump back takes a turn
  pub back_at : (b : Bool) (q : ℕ) → x.cells x.now.frame y.frame.scratch ≡ Word (truth b) → nth y.object.code pc ≡ Some (instr.JumpIf y.frame.scratch q) →
      q ≤ pc
      → Leads o (mach c pc x) (if b then turn_of (mach c pc x) c.turns (λ t. goes_to t q) else mach c (suc pc) x)
  back_at b q d h l = by b d
    where
      read : (b : Bool) → x.cells x.now.frame y.frame.scratch ≡ Word (truth b)
          → jump_if (mach c pc x) y.frame.scratch q ≡ jump_where (mach c pc x) (not (is_zero (truth b))) q
      read b d = read_is (mach c pc x) (plain_of y c s pc x k) y.frame.scratch (truth b) (λ n. jump_where (mach c pc x) (not (is_zero n)) q)
          (owned o y is c s pc x k y.frame.scratch fits) d

      by : (b : Bool) → x.cells x.now.frame y.frame.scratch ≡ Word (truth b)
          → Leads o (mach c pc x) (if b then turn_of (mach c pc x) c.turns (λ t. goes_to t q) else mach c (suc pc) x)
      by true d = one o y is c s pc x k _ (instr.JumpIf y.frame.scratch q) h
          (read true d ∙ ap (λ b. cond b (goes_to (mach c pc x) q) (take_turn (mach c pc x) (λ t. goes_to t q))) (le-ltb pc q l))
      by false d = one o y is c s pc x k (mach c (suc pc) x) (instr.JumpIf y.frame.scratch q) h (read false d)
