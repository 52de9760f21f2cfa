-- How far a run went follows from the way that a call goes.
use Rattle.std.proofs.Common.{◌≡◌, ◌⊎◌, ℕ, true, List, refl, sym, ◌∙◌, ap, subst, inl, inr, arith, lit≤}
use Rattle.hy_base.specs.declared.run.RunCause.{RunCause}
use Rattle.hy_base.specs.declared.run.RunCause.TheVariants as cause
use Rattle.hy_base.specs.declared.run.RunFault.{RunFault}
use Rattle.hy_base.specs.Counted.{no_counts}
use Rattle.hy_base.specs.Outside.{StillTells}
use Rattle.hy_tree.specs.Tree.{Program}
use Rattle.hy_front.specs.Phases.{IsTree}
use Rattle.hy_meaning.specs.Meaning.{mean}
use Rattle.hy_object.specs.declared.object.Object.{Object}
use Rattle.hy_object.specs.Runs.{OneRun}
use Rattle.hy_object.specs.States.{Stop, Ended}
use Rattle.hy_runs.specs.Runs.{Appends, AsksInVain, CutOffBy, CountsCause}
use Rattle.hy_driver.specs.Call.{Answer, Call, Filed, Streams}
use Rattle.hy_driver.specs.Compiled.{IsCompiled, Agrees}
use Rattle.hy_driver.specs.Course as w
use Rattle.hy_driver.specs.Course.{IsStopped, IsCutShort, RunMayAnswer, SourceMayAnswer, CallMayAnswer}
use Rattle.hy_driver.specs.Headline.{turns}
use Rattle.hy_driver.specs.Kept.{told_of, faults_of, status_of_stop, cause_status, Ran, IsNotRun, source_message, RanItsObject, KeepsToItsObject}
use Rattle.hy_driver.specs.Kept.{AsksInVainFor, KeepsToTheMeaning}
use Rattle.hy_driver.specs.Outside.{IsIdle, IsPrevented, RisesByOne}
use Rattle.hy_driver.proofs.Clauses as clauses
use Rattle.hy_driver.proofs.Clauses.{OneTree, SourceCourse, failed, no_memory, went_on}
use Rattle.hy_driver.proofs.ThisRun.{ended_is}

module _ (words : List (List ℕ)) (files_before files_after : Filed) (before after : Streams) where
  abbrev c : Answer → Call
  c it = clauses.c words files_before files_after before after it

  pub came_to_its_end : (object : Object) (n : ℕ) (says : Stop → List ℕ) (stop : Stop) (it : Answer) → IsStopped object n before after stop it.counts
      → ((it.status ≡ status_of_stop stop) × (it.message ≡ says stop)) ⊎ (it.status ≡ 8) → Ran (c it) object n says
  came_to_its_end object n says stop it run answer =
      inl (record { faults = run.faults; stop = stop; ran = run.ran; no_asks = run.no_asks; answer = answer })

  pub was_cut_off : (object : Object) (n : ℕ) (says : Stop → List ℕ) (fault : RunFault) (it : Answer) → it.counts ≡ fault.counts
      → it.status ≡ cause_status fault.cause → IsCutShort object n before after fault → Ran (c it) object n says
  was_cut_off object n says fault it counts status cut =
      inr (
        fault.cause,
        record {
          faults = cut.faults;
          cut = subst (λ counts. CutOffBy fault.cause object n (told_of before) (told_of after) (record { cause = fault.cause; counts = counts })) (sym counts)
              cut.cut;
          status = status;
        },
      )

  pub is_not_run : (it : Answer) → it.counts ≡ no_counts → IsPrevented (c it) → IsIdle before after → IsNotRun (c it)
  is_not_run it zeros prevented idle = record {
    prevented = prevented;
    nothing = clauses.ran_nothing words files_before files_after before after it zeros idle;
  }

  module _ (one_tree : OneTree) where
    -- THE OBJECT OF A SOURCE

    ran_its_object : (file bytes : List ℕ) (tree : Program) (object : Object) (it : Answer) → IsCompiled tree object
        → RunMayAnswer file bytes object before after it → RanItsObject (c it) file bytes tree
    ran_its_object file bytes tree object it made (w.ended {ending = ending} run) = record {
      object = object;
      compiled = made;
      bytes_are = refl;
      ran = came_to_its_end object turns (source_message file bytes) (Ended ending.end) it run.stopped (inl (refl, refl));
    }
    ran_its_object file bytes tree object it made (w.ended_without_message {ending = ending} run) = record {
      object = object;
      compiled = made;
      bytes_are = refl;
      ran = came_to_its_end object turns (source_message file bytes) (Ended ending.end) it run.stopped (inr refl);
    }
    ran_its_object file bytes tree object it made (w.cut_off {fault = fault} cut) = record {
      object = object;
      compiled = made;
      bytes_are = refl;
      ran = was_cut_off object turns (source_message file bytes) fault it refl refl cut.cut_short;
    }

    keeps_so : (file bytes : List ℕ) (tree : Program) (it : Answer) → IsTree bytes tree → SourceMayAnswer file bytes before after it
        → IsNotRun (c it) ⊎ RanItsObject (c it) file bytes tree
    keeps_so file bytes tree it is (w.refused {f = f} first idle) = absurd (is.sound f first.0)
    keeps_so file bytes tree it is (w.not_compiled idle) = inl (is_not_run it refl (inr refl) idle)
    keeps_so file bytes tree it is (w.executed {tree = other} {object = object} made executes) =
        inr (ran_its_object file bytes tree object it
        (clauses.compiled words files_before files_after before after one_tree bytes tree other object is made) executes)

    keeps_from : (file bytes : List ℕ) (tree : Program) (it : Answer) → IsTree bytes tree
        → SourceCourse file bytes files_before files_after before after it
        → IsNotRun (c it) ⊎ RanItsObject (c it) file bytes tree
    keeps_from file bytes tree it is (failed rose idle) = inl (is_not_run it refl (inl rose) idle)
    keeps_from file bytes tree it is (no_memory same idle) = inl (is_not_run it refl (inr refl) idle)
    keeps_from file bytes tree it is (went_on same follows) = keeps_so file bytes tree it is follows

    pub keeps_to_its_object : (it : Answer) → CallMayAnswer words files_before files_after before after it → KeepsToItsObject (c it)
    keeps_to_its_object it way file bytes tree source is =
        keeps_from file bytes tree it is (clauses.from_source words files_before files_after before after file bytes it source way)

    -- THE MEANING ON WHAT WAS TAKEN

    module _ (one_run : OneRun) where
      asks_in_vain : (tree : Program) (object : Object) (fault : RunFault) (it : Answer) → it.counts ≡ fault.counts → IsCompiled tree object
          → AsksInVain object turns (told_of before) (told_of after) fault → AsksInVainFor (c it) tree
      asks_in_vain tree object fault it counts made asks =
          let meant = made.same asks.bytes true turns (lit≤ tt) in
          let same_run : asks.run ≡ meant.0 = one_run object asks.bytes true turns asks.run meant.0 asks.runs meant.1 in
          let agrees : Agrees asks.run (mean tree asks.bytes true turns) = subst (λ r. Agrees r (mean tree asks.bytes true turns)) (sym same_run) meant.2 in
          record {
            bytes = asks.bytes;
            taken = asks.taken;
            asks = ended_is (sym agrees.stop ∙ asks.asks);
            output = subst (λ o. StillTells before.out after.out (Appends o)) agrees.output asks.output;
            turns_are = ap (λ k. k.turns) (counts ∙ asks.counts) ∙ agrees.turns;
            opened_are = ap (λ k. k.opened) (counts ∙ asks.counts) ∙ agrees.opened;
          }

      cut_asks : (tree : Program) (object : Object) (fault : RunFault) (it : Answer) → it.counts ≡ fault.counts → IsCompiled tree object
          → (by : RunCause) → CountsCause by (faults_of before) (faults_of after) → RisesByOne before.input_faults after.input_faults
          → CutOffBy by object turns (told_of before) (told_of after) fault → AsksInVainFor (c it) tree
      cut_asks tree object fault it counts made cause.Input faults rose cut = asks_in_vain tree object fault it counts made cut
      cut_asks tree object fault it counts made cause.Output faults rose cut = let same = faults.0 in absurd (omega (arith, same, rose))
      cut_asks tree object fault it counts made cause.NoMemory faults rose cut = let same = faults.0 in absurd (omega (arith, same, rose))

      run_asks : (file bytes : List ℕ) (tree : Program) (object : Object) (it : Answer) → IsCompiled tree object
          → RisesByOne before.input_faults after.input_faults
          → RunMayAnswer file bytes object before after it → AsksInVainFor (c it) tree
      run_asks file bytes tree object it made rose (w.ended run) = let same = run.stopped.faults.0 in absurd (omega (arith, same, rose))
      run_asks file bytes tree object it made rose (w.ended_without_message run) = let same = run.stopped.faults.0 in absurd (omega (arith, same, rose))
      run_asks file bytes tree object it made rose (w.cut_off {fault = fault} cut) =
          cut_asks tree object fault it refl made fault.cause cut.cut_short.faults rose cut.cut_short.cut

      source_asks : (file bytes : List ℕ) (tree : Program) (it : Answer) → IsTree bytes tree → RisesByOne before.input_faults after.input_faults
          → SourceMayAnswer file bytes before after it → AsksInVainFor (c it) tree
      source_asks file bytes tree it is rose (w.refused first idle) = let same = idle.input_faults in absurd (omega (arith, same, rose))
      source_asks file bytes tree it is rose (w.not_compiled idle) = let same = idle.input_faults in absurd (omega (arith, same, rose))
      source_asks file bytes tree it is rose (w.executed {tree = other} {object = object} made executes) =
          run_asks file bytes tree object it (clauses.compiled words files_before files_after before after one_tree bytes tree other object is made) rose
          executes

      from_asks : (file bytes : List ℕ) (tree : Program) (it : Answer) → IsTree bytes tree → RisesByOne before.input_faults after.input_faults
          → SourceCourse file bytes files_before files_after before after it → AsksInVainFor (c it) tree
      from_asks file bytes tree it is risen (failed rose idle) = let same = idle.input_faults in absurd (omega (arith, same, risen))
      from_asks file bytes tree it is risen (no_memory same idle) = let same = idle.input_faults in absurd (omega (arith, same, risen))
      from_asks file bytes tree it is risen (went_on same follows) = source_asks file bytes tree it is risen follows

      pub keeps_to_the_meaning : (it : Answer) → CallMayAnswer words files_before files_after before after it → KeepsToTheMeaning (c it)
      keeps_to_the_meaning it way file bytes tree source is rose =
          from_asks file bytes tree it is rose (clauses.from_source words files_before files_after before after file bytes it source way)
