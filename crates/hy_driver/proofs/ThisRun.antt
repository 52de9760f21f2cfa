-- This run, and what is written where it is cut off.
use Rattle.std.proofs.Common.{◌≡◌, ◌≢◌, ℕ, zero, false, List, length, take, Option, Some, None, refl, sym, ◌∙◌, ap, subst, inl, inr, arith, lit≤}
use Rattle.std.proofs.lemmas.List.{append-nil}
use Rattle.std.proofs.Math.Seq.{take-length}
use Rattle.hy_base.specs.declared.run.Ending.{Ending}
use Rattle.hy_base.specs.declared.run.End.{End}
use Rattle.hy_base.specs.declared.run.RunCause.{RunCause}
use Rattle.hy_base.specs.declared.run.RunCause.TheVariants as cause
use Rattle.hy_base.specs.declared.run.RunFault.{RunFault}
use Rattle.hy_base.specs.Outside.{StillTells}
use Rattle.hy_base.specs.Streams.{Tape}
use Rattle.hy_tree.specs.Tree.{Program}
use Rattle.hy_front.specs.Phases.{IsTree}
use Rattle.hy_meaning.specs.Meaning.{mean}
use Rattle.hy_object.specs.declared.object.Object.{Object}
use Rattle.hy_object.specs.Bytes.{bytes_of}
use Rattle.hy_object.specs.Runs.{Runs, OneRun, WritesBeginnings}
use Rattle.hy_object.specs.States.{Ended}
use Rattle.hy_runs.specs.Runs.{Appends, IsTaken, IsCutOffAt, CutOffBy}
use Rattle.hy_driver.specs.Call.{Answer, Call, Filed, Streams, IsInput, IsQuiet}
use Rattle.hy_driver.specs.Compiled.{IsCompiled, Agrees}
use Rattle.hy_driver.specs.Course as w
use Rattle.hy_driver.specs.Course.{IsRun, RunMayAnswer, SourceMayAnswer, CallMayAnswer}
use Rattle.hy_driver.specs.Headline.{turns, status_of, end_message, IsRunOf, RunsAsItMeans, WritesABeginning}
use Rattle.hy_driver.specs.Kept.{told_of}
use Rattle.hy_driver.proofs.Clauses as clauses
use Rattle.hy_driver.proofs.Clauses.{OneTree, SourceCourse, failed, no_memory, went_on}

pub ended_is : {e f : End} → Ended e ≡ Ended f → e ≡ f
ended_is e = cc

-- the input of a run is the one that the source told
pub input_is : (input left : List ℕ) (count : ℕ) (old new : Tape) (before after : Option Tape) → before ≡ Some old → after ≡ Some new → left ≡ old.left
    → StillTells before after (IsTaken input count) → input ≡ left
input_is input left count old new before after told still is taken =
    let t : StillTells (Some old) (Some new) (IsTaken input count) =
    subst (λ a. StillTells (Some old) a (IsTaken input count)) still (subst (λ b. StillTells b after (IsTaken input count)) told taken) in
    t.whole ∙ sym is

-- where nothing was written, that is a beginning of anything
nothing_out : (before after : Option (List ℕ)) (all : List ℕ) → after ≡ before → (n : ℕ) × StillTells before after (Appends (take n all))
nothing_out None after all same = (zero, subst (λ a. StillTells None a (Appends (take zero all))) (sym same) tt)
nothing_out (Some told) after all same = (zero, subst (λ a. StillTells (Some told) a (Appends (take zero all))) (sym same) (sym (append-nil told)))

module _ (words : List (List ℕ)) (files_before files_after : Filed) (before after : Streams)
    (one_tree : OneTree) (one_run : OneRun) (writes_beginnings : WritesBeginnings) where
  abbrev c : Answer → Call
  c it = clauses.c words files_before files_after before after it

  -- what a run of the object is, by the meaning
  is_run_of : (file bytes left : List ℕ) (tree : Program) (object : Object) (ending : Ending) → IsCompiled tree object
      → IsInput (c (w.ended_answer file bytes (bytes_of object) ending)) left
      → IsRun object before after ending → IsRunOf (c (w.ended_answer file bytes (bytes_of object) ending)) file bytes left tree
  is_run_of file bytes left tree object ending made input run =
      let ran = run.stopped.ran in
      let same_input : ran.input ≡ left = input_is ran.input left ran.run.taken input.old input.new before.input after.input input.told input.still
      input.left_of_it ran.taken in
      let runs : Runs object left false turns ran.run = subst (λ i. Runs object i false turns ran.run) same_input ran.runs in
      let asked = made.same left false turns (lit≤ tt) in
      let same_run : ran.run ≡ asked.0 = one_run object left false turns ran.run asked.0 runs asked.1 in
      let agrees : Agrees ran.run (mean tree left false turns) = subst (λ r. Agrees r (mean tree left false turns)) (sym same_run) asked.2 in
      let end_is : ending.end ≡ (mean tree left false turns).end = ended_is (sym ran.stopped ∙ agrees.stop) in
      record {
        object = object;
        bytes_are = refl;
        run = ran.run;
        runs = runs;
        counts = sym ran.same_counts;
        status = ap status_of end_is;
        message = ap (end_message file bytes) end_is;
        output = subst (λ o. StillTells before.out after.out (Appends o)) agrees.output ran.output;
        taken = subst (λ t. StillTells before.input after.input (IsTaken left t)) agrees.taken
            (subst (λ i. StillTells before.input after.input (IsTaken i ran.run.taken)) same_input ran.taken);
      }

  executes_as : (file bytes left : List ℕ) (tree : Program) (object : Object) (it : Answer) → IsCompiled tree object → IsInput (c it) left → IsQuiet (c it)
      → RunMayAnswer file bytes object before after it → IsRunOf (c it) file bytes left tree
  executes_as file bytes left tree object it made input quiet (w.ended {ending = ending} run) =
      is_run_of file bytes left tree object ending made input run
  executes_as file bytes left tree object it made input quiet (w.ended_without_message run) = absurd (quiet.memory refl)
  executes_as file bytes left tree object it made input quiet (w.cut_off {fault = fault} cut) =
      absurd (clauses.not_cut words files_before files_after before after fault.cause it quiet cut.cut_short.faults refl)

  follows_as : (file bytes left : List ℕ) (tree : Program) (it : Answer) → IsTree bytes tree → IsInput (c it) left → IsQuiet (c it)
      → SourceMayAnswer file bytes before after it → IsRunOf (c it) file bytes left tree
  follows_as file bytes left tree it is input quiet (w.refused {f = f} first idle) = absurd (is.sound f first.0)
  follows_as file bytes left tree it is input quiet (w.not_compiled idle) = absurd (quiet.memory refl)
  follows_as file bytes left tree it is input quiet (w.executed {tree = other} {object = object} made executes) =
      executes_as file bytes left tree object it (clauses.compiled words files_before files_after before after one_tree bytes tree other object is made)
      input quiet executes

  from_as : (file bytes left : List ℕ) (tree : Program) (it : Answer) → IsTree bytes tree → IsInput (c it) left → IsQuiet (c it)
      → SourceCourse file bytes files_before files_after before after it → IsRunOf (c it) file bytes left tree
  from_as file bytes left tree it is input quiet (failed rose idle) = let same = quiet.files in absurd (omega (arith, rose, same))
  from_as file bytes left tree it is input quiet (no_memory same idle) = absurd (quiet.memory refl)
  from_as file bytes left tree it is input quiet (went_on same follows) = follows_as file bytes left tree it is input quiet follows

  pub runs_as_it_means : (it : Answer) → CallMayAnswer words files_before files_after before after it → RunsAsItMeans (c it)
  runs_as_it_means it way file bytes left tree source input quiet is =
      from_as file bytes left tree it is input quiet (clauses.from_source words files_before files_after before after file bytes it source way)

  -- AFTER A FAULT

  all_out : (it : Answer) (left : List ℕ) (tree : Program) (object : Object) (ending : Ending) → IsCompiled tree object → IsInput (c it) left
      → IsRun object before after ending
      → (n : ℕ) × StillTells before.out after.out (Appends (take n (mean tree left false turns).output))
  all_out it left tree object ending made input run =
      let ran = run.stopped.ran in
      let same_input : ran.input ≡ left = input_is ran.input left ran.run.taken input.old input.new before.input after.input input.told input.still
      input.left_of_it ran.taken in
      let runs : Runs object left false turns ran.run = subst (λ i. Runs object i false turns ran.run) same_input ran.runs in
      let asked = made.same left false turns (lit≤ tt) in
      let same_run : ran.run ≡ asked.0 = one_run object left false turns ran.run asked.0 runs asked.1 in
      let output : ran.run.output ≡ (mean tree left false turns).output = ap (λ r. r.output) same_run ∙ asked.2.output in
      let all = (mean tree left false turns).output in
      (length all, subst (λ o. StillTells before.out after.out (Appends o)) (output ∙ sym (take-length all)) ran.output)

  cut_out : (it : Answer) (left : List ℕ) (tree : Program) (object : Object) (fault : RunFault) → IsCompiled tree object → IsInput (c it) left
      → IsCutOffAt object turns (told_of before) (told_of after) fault → (n : ℕ)
      × StillTells before.out after.out (Appends (take n (mean tree left false turns).output))
  cut_out it left tree object fault made input cut =
      let same_input : cut.input ≡ left = input_is cut.input left _ input.old input.new before.input after.input input.told input.still
      input.left_of_it cut.taken in
      let asked = made.same cut.input false turns (lit≤ tt) in
      let begins = writes_beginnings object cut.input false turns asked.0 cut.steps cut.front asked.1 in
      let output : asked.0.output ≡ (mean tree left false turns).output = asked.2.output ∙ ap (λ i. (mean tree i false turns).output) same_input in
      (begins.0, subst (λ o. StillTells before.out after.out (Appends o)) (begins.1 ∙ ap (λ o. take begins.0 o) output) cut.output)

  -- it was not cut off by the input
  cut_by : (it : Answer) (left : List ℕ) (tree : Program) (object : Object) (fault : RunFault) → IsCompiled tree object → IsInput (c it) left
      → (by : RunCause) → by ≢ cause.Input → CutOffBy by object turns (told_of before) (told_of after) fault → (n : ℕ)
      × StillTells before.out after.out (Appends (take n (mean tree left false turns).output))
  cut_by it left tree object fault made input cause.Input not_input cut = absurd (not_input refl)
  cut_by it left tree object fault made input cause.Output not_input cut = cut_out it left tree object fault made input cut
  cut_by it left tree object fault made input cause.NoMemory not_input (inl at) = cut_out it left tree object fault made input at
  cut_by it left tree object fault made input cause.NoMemory not_input (inr off) =
      nothing_out before.out after.out (mean tree left false turns).output off.output

  executes_out : (file bytes left : List ℕ) (tree : Program) (object : Object) (it : Answer) → IsCompiled tree object → IsInput (c it) left
      → RunMayAnswer file bytes object before after it
      → (n : ℕ) × StillTells before.out after.out (Appends (take n (mean tree left false turns).output))
  executes_out file bytes left tree object it made input (w.ended {ending = ending} run) = all_out it left tree object ending made input run
  executes_out file bytes left tree object it made input (w.ended_without_message {ending = ending} run) = all_out it left tree object ending made input run
  executes_out file bytes left tree object it made input (w.cut_off {fault = fault} cut) =
      cut_by it left tree object fault made input fault.cause cut.no_input cut.cut_short.cut

  follows_out : (file bytes left : List ℕ) (tree : Program) (it : Answer) → IsTree bytes tree → IsInput (c it) left
      → SourceMayAnswer file bytes before after it
      → (n : ℕ) × StillTells before.out after.out (Appends (take n (mean tree left false turns).output))
  follows_out file bytes left tree it is input (w.refused first idle) = nothing_out before.out after.out (mean tree left false turns).output idle.out
  follows_out file bytes left tree it is input (w.not_compiled idle) = nothing_out before.out after.out (mean tree left false turns).output idle.out
  follows_out file bytes left tree it is input (w.executed {tree = other} {object = object} made executes) =
      executes_out file bytes left tree object it (clauses.compiled words files_before files_after before after one_tree bytes tree other object is made)
      input executes

  from_out : (file bytes left : List ℕ) (tree : Program) (it : Answer) → IsTree bytes tree → IsInput (c it) left
      → SourceCourse file bytes files_before files_after before after it
      → (n : ℕ) × StillTells before.out after.out (Appends (take n (mean tree left false turns).output))
  from_out file bytes left tree it is input (failed rose idle) = nothing_out before.out after.out (mean tree left false turns).output idle.out
  from_out file bytes left tree it is input (no_memory same idle) = nothing_out before.out after.out (mean tree left false turns).output idle.out
  from_out file bytes left tree it is input (went_on same follows) = follows_out file bytes left tree it is input follows

  pub writes_a_beginning : (it : Answer) → CallMayAnswer words files_before files_after before after it → WritesABeginning (c it)
  writes_a_beginning it way file bytes left tree source input is =
      from_out file bytes left tree it is input (clauses.from_source words files_before files_after before after file bytes it source way)
