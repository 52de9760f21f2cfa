-- Lines of output.
use Rattle.std.proofs.Common.{◌≡◌, ◌+◌, ℕ, suc, Bool, false, List, ◌++◌, length, take, drop, ℤ, Option, Some, Ok, Err, refl, sym, ap, subst}
use Rattle.std.proofs.Common.{◌∙◌, arith}
use Rattle.hy_base.specs.declared.run.RunCause.{RunCause}
use Rattle.hy_base.specs.declared.run.RunCause.TheVariants as cause
use Rattle.hy_base.specs.Outside.{StillTells}
use Rattle.hy_base.specs.Streams.{Tape}
use Rattle.hy_object.specs.declared.instr.Instr.TheVariants as instr
use Rattle.hy_object.specs.declared.instr.Shown.{Shown}
use Rattle.hy_object.specs.declared.object.Fun.{Fun}
use Rattle.hy_object.specs.declared.object.Object.{Object}
use Rattle.hy_object.specs.Checks.{next, read_word}
use Rattle.hy_object.specs.Runs.{next_piece, with_more}
use Rattle.hy_object.specs.States.{State, nth}
use Rattle.hy_object.specs.Steps.{begin, step}
use Rattle.hy_object.specs.Words.{line_of}
use Rattle.hy_object.proofs.OneEnd.{steps_add}
use Rattle.hy_runs.specs.Lines.{Prints, out_faults}
use Rattle.hy_runs.specs.Runs.{Appends, CountsCause, faults, told}
use Rattle.hy_runs.proofs.Tellings.{some_front, some_line, told_more}
use Rattle.hy_store.specs.declared.halt.Halt.TheVariants as halt
use Rattle.hy_store.specs.Represents.{Ghosts, Represents}
use Rattle.hy_checked.specs.declared.machine.Machine.{Machine}
use Rattle.hy_checked.specs.Simulates.{IsAt, Simulates}
use Rattle.hy_runs.specs.Progress.{Comes}
use Rattle.hy_runs.proofs.Coming.{drop_front, step_is}
use Rattle.hy_checked.specs.Progress.{RunAdvances}
use Rattle.hy_checked.proofs.Coming.{cut_out_of_memory}
use Rattle.hy_checked.proofs.Known.{same_fun, represents_fun}
use Rattle.hy_checked.proofs.Turning.{simulates_at}

-- the outside is not looked at
pub simulates_outside : (object : Object) (m : Machine) (s : State) (input : List ℕ) (cut : Bool) (output : List ℕ) → Simulates object m s
    → Simulates object m (record s { input = input; cut = cut; output = output })
simulates_outside object m s input cut output st = record {
  ghosts = st.ghosts;
  represents = (let q = st.represents in record {
    held = q.held;
    opened = q.opened;
    frame = q.frame;
    fun_is = q.fun_is;
    own = q.own;
    slots = q.slots;
    mine = q.mine;
    no_array = q.no_array;
    counts = q.counts;
    waiting = q.waiting;
    apart = q.apart;
  });
  fun = st.fun;
  number = st.number;
  place = st.place;
  left = st.left;
  turns = st.turns;
  going = st.going;
  caller = st.caller;
  running = st.running;
  callers = st.callers;
  suspended = st.suspended;
  all = st.all;
  handed = st.handed;
  sliding = st.sliding;
}

module _ (object : Object) (m : Machine) (fun : Fun) (word : ℕ) (shown : Shown) (n : ℤ) (at : IsAt object m fun (instr.Print word shown))
    (reads : (g : Ghosts) (s : State) → Represents g m.store fun s → (go : ℤ → State) → read_word s word go ≡ go n) where
  prints : (s : State) → Simulates object m s → step object s ≡ record (next s) { output = s.output ++ line_of shown n }
  prints s st =
      step_is object s fun (Some (instr.Print word shown)) st.going (same_fun object m s fun st at.fun_is) (ap (nth fun.code) st.place ∙ at.instr_is)
      ∙ reads st.ghosts s (represents_fun object m s fun st at.fun_is) (λ k. record (next s) { output = s.output ++ line_of shown k })

  piece_is : (s : State) (more : List ℕ) → Simulates object m s → next_piece object (with_more s more false) ≡ line_of shown n
  piece_is s more st =
      ap (λ (t : State). drop (length s.output) t.output) (prints (with_more s more false) (simulates_outside object m s (s.input ++ more) false s.output st))
      ∙ drop_front (length s.output) s.output (line_of shown n) refl

  pub print_goes_on : (input : Option Tape) (mid new : Option (List ℕ)) (ended : Bool) → StillTells mid new (Appends (line_of shown n))
      → RunAdvances object m (record m { place = m.place + 1 }) (told input mid) (told input new) ended ended (Ok tt)
  print_goes_on input mid new ended out = record {
    does = λ k first w.
        let s : State = w.state in
        let c = w.comes in
        let t : State = record (next s) { output = s.output ++ line_of shown n } in
        let e : suc s.now.place ≡ m.place + 1 = omega (arith, w.simulates.place) in
        record {
          state = record (next s) { output = s.output ++ line_of shown n };
          comes = record {
            answered = c.answered;
            steps = c.steps + 1;
            is = steps_add object c.steps 1 (begin object c.answered s.cut k) ∙ ap (step object) c.is ∙ prints s w.simulates;
            all = c.all;
            taken = c.taken;
            used_up = c.used_up;
            output = told_more first.out mid new s.output (line_of shown n) c.output out;
          };
          cut_is = w.cut_is;
          simulates = subst (λ (p : ℕ). Simulates object (record m { place = p }) (record (next s) { output = s.output ++ line_of shown n })) e
              (simulates_outside object (record m { place = suc s.now.place }) (next s) s.input s.cut (s.output ++ line_of shown n)
              (simulates_at object m s (suc s.now.place) w.simulates));
        };
  }

  pub print_is_cut : (input : Option Tape) (mid new : Option (List ℕ)) (ended : Bool) (c : RunCause) → Prints shown n mid new (Err c)
      → RunAdvances object m m (told input mid) (told input new) ended ended (Err (halt.Cut c))
  print_is_cut input mid new ended cause.Input out = absurd out
  print_is_cut input mid new ended cause.Output out = record {
    does = λ k first w.
        let front = some_front mid new (line_of shown n) out in (
          front.0,
          record {
            state = w.state;
            out = mid;
            comes = w.comes;
            going = w.simulates.going;
            counts_are = sym w.simulates.represents.counts;
            piece = λ more. subst (λ (xs : List ℕ). StillTells mid new (Appends (take front.0 xs))) (sym (piece_is w.state more w.simulates)) front.1;
          },
          λ more e. some_line shown n (sym (piece_is w.state more w.simulates) ∙ e),
        );
  }
  print_is_cut input mid new ended cause.NoMemory out = record {
    does = λ k first w. cut_out_of_memory object k first (told input new) m w.state m.store.counts
        (subst (λ (o : Option (List ℕ)). Comes object k first (told input o) w.state) (sym out) w.comes) w.simulates refl;
  }

pub print_faults : (shown : Shown) (n : ℤ) (mid new : Option (List ℕ)) (c : RunCause) (i before later : ℕ) → Prints shown n mid new (Err c)
    → later ≡ out_faults before c → CountsCause c (faults i before) (faults i later)
print_faults shown n mid new cause.Input i before later out h = absurd out
print_faults shown n mid new cause.Output i before later out h = (refl, h)
print_faults shown n mid new cause.NoMemory i before later out h = (refl, h)
