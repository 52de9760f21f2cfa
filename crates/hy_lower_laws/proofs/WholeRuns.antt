-- Whole runs of `main`: after each number of steps of the core there is a number of instructions of the machine.
use Rattle.std.proofs.Common.{◌≡◌, ℕ, zero, suc, ◌+◌, ◌-◌, Bool, List, [], ◌∷◌, length, Some, None, refl, sym, ap, ◌∙◌, subst, arith, slice_get}
use Rattle.hy_base.specs.declared.run.End.TheVariants as end
use Rattle.hy_core.specs.Plain.{Fun, Core}
use Rattle.hy_core.specs.Memory.{lending, copying, no_cells, no_copies}
use Rattle.hy_core.specs.Memory as memory
use Rattle.hy_core.specs.Runs.{interpret, Return}
use Rattle.hy_core.specs.Runs as runs
use Rattle.hy_core.specs.Control.{Control, GivesUp, Setting, Halt, Ends}
use Rattle.hy_core.specs.Statements.{interaction, interaction_of, start, begins_with}
use Rattle.hy_core.specs.Meaning.{Run, report, setting, state}
use Rattle.hy_core.specs.Shaped.{Shaped}
use Rattle.hy_core.specs.Flow.{HasFlow}
use Rattle.hy_core.proofs.Stuck.{never_stuck}
use Rattle.hy_core.proofs.SetRuns.{flow_is_calm}
use Rattle.hy_core.proofs.States.{ready_states}
use Rattle.hy_object.specs.declared.instr.Instr.{Instr}
use Rattle.hy_object.specs.declared.instr.Instr.TheVariants as instr
use Rattle.hy_object.specs.declared.object.Object.{Object}
use Rattle.hy_object.specs.States.{State, nth}
use Rattle.hy_object.specs.Steps as steps
use Rattle.hy_lower.specs.Code.{fun_of, code_all, length_all}
use Rattle.hy_lower.specs.Frames.{frame_of}
use Rattle.hy_lower.specs.Examples.{reported, halted}
use Rattle.hy_lower_laws.specs.WordSteps.{IsWordWork, SameSpans}
use Rattle.hy_lower_laws.specs.WordRuns.{main_body, WordRunsAgree}
use Rattle.hy_lower_laws.proofs.Stands.{HasAt, has_front, stay}
use Rattle.hy_lower_laws.proofs.Simulates.{Body, IsBody, IsWrong, stuck, not_set, not_opened, mach, leads_none, Follows, goes_on, over, wrong, leads_follows}
use Rattle.hy_lower_laws.proofs.Following.{word_steps_follow}

-- all code stands at its beginning
has_suc : (x : Instr) (code : List Instr) (pc : ℕ) (is : List Instr) → HasAt code pc is → HasAt (x ∷ code) (suc pc) is
has_suc x code pc [] h = tt
has_suc x code pc (i ∷ is) h = (h.0, has_suc x code (suc pc) is h.1)

has_all : (code : List Instr) → HasAt code 0 code
has_all [] = tt
has_all (x ∷ code) = (refl, has_suc x code 0 code (has_all code))

module _ (o : Object) (y : Body) (is : IsBody y) (p : Setting) (stage : p.stage ≡ GivesUp) (same : SameSpans o p) (tables : p.core.types ≡ y.frame.types) where
  -- one step, whether the run goes on or not
  next_follows : (c : Control) (s : memory.Cells) (m : State) → (c.halt ≡ None → IsWordWork y.frame c.now.work)
      → Follows o y (record { control = c; memory = s }) m → Follows o y (interpret lending (interaction p c) s) m
  next_follows c s m words (goes_on pc x k at l) =
      leads_follows o y (interpret lending (interaction p c) s) m (mach c pc x) l (word_steps_follow o y is p stage same tables c s pc x k at (words k.going))
  next_follows c s m words (over q l d) =
      subst (λ t. Follows o y (interpret lending t s) m) (sym (ap (interaction_of p c) d.core)) (over q l d)
  next_follows c s m words (wrong h e w) =
      subst (λ t. Follows o y (interpret lending t s) m) (sym (ap (interaction_of p c) e)) (wrong h e w)

  run_follows : (n : ℕ) (c : Control) (s : memory.Cells) (m : State)
      → ((k : ℕ) → let d = (runs.steps lending (interaction p) k c s).control in d.halt ≡ None → IsWordWork y.frame d.now.work)
      → Follows o y (record { control = c; memory = s }) m → Follows o y (runs.steps lending (interaction p) n c s) m
  run_follows zero c s m words f = f
  run_follows (suc n) c s m words f =
      let z = interpret lending (interaction p c) s in
      run_follows n z.control z.memory m (λ k. words (suc k)) (next_follows c s m (words 0) f)

-- THE START

start_follows : (o : Object) (core : Core) (f : Fun) (sizes input : List ℕ) (cut : Bool) (n : ℕ) → slice_get core.funs 0 ≡ Some f
    → nth o.funs 0 ≡ Some (fun_of core.types sizes f)
    → Follows o (main_body core sizes f n) (record { control = start core input n; memory = no_cells }) (steps.begin o input cut n)
start_follows o core f sizes input cut zero e d =
    let y = main_body core sizes f 0 in
    subst (λ r. Follows o y (record { control = begins_with r input 0 (Some (Ends end.Spent)); memory = no_cells }) (steps.begin o input cut 0)) (sym e)
    (over (steps.begin o input cut 0) (leads_none o (steps.begin o input cut 0)) (record {
      how = end.Spent;
      core = refl;
      machine = refl;
      output = refl;
      input = refl;
      turns = refl;
      opened = refl;
    }))
start_follows o core f sizes input cut (suc n) e d =
    let y = main_body core sizes f (suc n) in
    let b = frame_of core.types sizes f in
    let x = steps.begin o input cut (suc n) in
    subst (λ r. Follows o y (record { control = begins_with r input n None; memory = no_cells }) x) (sym e)
    (goes_on 0 x (record {
      going = refl;
      stop = refl;
      core = refl;
      object = ap steps.fun_of d;
      closed = λ name. refl;
      own = λ k. refl;
      holds = record { words = λ l w word. refl; nameless = λ block at. refl };
      turns = omega arith;
      core_alone = refl;
      alone = refl;
      role = refl;
      slots = λ slot. refl;
    }) (record {
      after = 0;
      again = 0;
      has = has_front y.object.code 0 (code_all b 0 0 0 f.body) (instr.Jump (length_all b f.body) ∷ []) (has_all y.object.code);
      inside = tt;
      end = 0 + length_all b f.body;
      goes = stay y.object.code _ _ refl;
      next = tt;
    }) (leads_none o x))

-- WHAT IS SHOWN

met : (o : Object) (y : Body) (input : List ℕ) (r : runs.State Control memory.Cells) (m : State) → Follows o y r m
    → ((h : Halt) → r.control.halt ≡ Some h → IsWrong h → ⊥) → (j : ℕ) × (reported input (steps.steps o j m) ≡ report input y.turns r.control)
met o y input r m (goes_on pc x k at l) fine =
    let c = r.control in
    let t = k.turns in
    let turns : x.counts.turns ≡ y.turns - c.turns = omega arith in
    let halt : halted x.stop ≡ c.halt = ap halted k.stop ∙ sym k.going in
    let shows : reported input (mach c pc x) ≡ report input y.turns c = λ i. record {
      output = c.output;
      halt = halt i;
      taken = length input - length c.input;
      turns = turns i;
      opened = c.opened;
    } in
    (l.count, ap (reported input) l.runs ∙ shows)
met o y input r m (over n l d) fine =
    let c = r.control in
    let t = d.turns in
    let turns : n.counts.turns ≡ y.turns - c.turns = omega arith in
    let halt : halted n.stop ≡ c.halt = ap halted d.machine ∙ sym d.core in
    let shows : reported input n ≡ report input y.turns c = λ i. record {
      output = d.output i;
      halt = halt i;
      taken = length input - length (d.input i);
      turns = turns i;
      opened = d.opened i;
    } in
    (l.count, ap (reported input) l.runs ∙ shows)
met o y input r m (wrong h e w) fine = absurd (fine h e w)

-- a run of a core of the right shape that has a flow halts in no such way
never_wrong : (r : Run) → Shaped r.core → HasFlow r.stage r.core → (k : ℕ) (h : Halt) → (state lending no_cells r k).control.halt ≡ Some h → IsWrong h → ⊥
never_wrong r shaped flow k h e stuck = never_stuck r shaped k (ap (λ c. c.halt) (ready_states r shaped flow k).control ∙ e)
never_wrong r shaped flow k h e not_set = (flow_is_calm r shaped flow).reads k (ap (λ c. c.halt) (ready_states r shaped flow k).control ∙ e)
never_wrong r shaped flow k h e not_opened = (flow_is_calm r shaped flow).closes k (ap (λ c. c.halt) (ready_states r shaped flow k).control ∙ e)

pub word_runs_agree : WordRunsAgree
word_runs_agree r stage ready o sizes f e d same is words k =
    let y = main_body r.core sizes f r.turns in
    let p = setting r in
    met o y r.input (state lending no_cells r k) (steps.begin o r.input r.cut r.turns)
    (run_follows o y is p stage same refl k (start r.core r.input r.turns) no_cells (steps.begin o r.input r.cut r.turns) words
    (start_follows o r.core f sizes r.input r.cut r.turns e d))
    (λ h e w. never_wrong r ready.shaped (subst (λ t. HasFlow t r.core) (sym stage) ready.flow) k h e w)
