-- The clauses on `exec` follow from the way that a call goes.
use Rattle.std.proofs.Common.{◌≡◌, ◌⊎◌, ◌≤◌, ◌+◌, ℕ, suc, false, List, [], take, Some, refl, sym, ◌∙◌, ap, subst, inl}
use Rattle.std.proofs.Common.{inr, arith}
use Rattle.hy_base.specs.declared.run.Counts.{Counts}
use Rattle.hy_base.specs.declared.run.End.TheVariants as end
use Rattle.hy_base.specs.declared.run.RunCause.{RunCause}
use Rattle.hy_base.specs.declared.run.RunCause.TheVariants as cause
use Rattle.hy_base.specs.Files.{Holding, Loads}
use Rattle.hy_base.specs.Outside.{StillTells}
use Rattle.hy_object.specs.declared.object.Object.{Object}
use Rattle.hy_object.specs.Places.{OneSpelling, OnePlace}
use Rattle.hy_object.specs.Runs.{Run, Runs, OneRun}
use Rattle.hy_object.specs.States.{Stop, Ended, Stuck}
use Rattle.hy_runs.specs.Runs.{Appends, IsTaken}
use Rattle.hy_words.specs.declared.words.Options.{Options}
use Rattle.hy_words.specs.Asked.{ToRun, ToExec}
use Rattle.hy_driver.specs.Call.{Answer, Call, Filed, Streams, IsInput, IsQuiet}
use Rattle.hy_driver.specs.Course as w
use Rattle.hy_driver.specs.Course.{bare, IsStopped, FileMayAnswer, CallMayAnswer, stopped_answer}
use Rattle.hy_driver.specs.Executed.{longest_object, IsObjectFile, IsFileOf, IsBadFile, stop_message, IsRunOfFile}
use Rattle.hy_driver.specs.Executed.{ExecutesTheObject, IsRefusedFile, RefusesTheFile, KeepsToTheFile, ReturnsTheBytes, Stops, AnswersStop}
use Rattle.hy_driver.specs.Executed.{IsTrapped, IsStuck, AnswersItsEnd, IsExecution, Answers9, Answers10}
use Rattle.hy_driver.specs.Headline.{IsReturned}
use Rattle.hy_driver.specs.Kept.{status_of_stop, cause_status, IsNotRun, Ran}
use Rattle.hy_driver.specs.Outside.{IsIdle}
use Rattle.hy_driver.specs.Texts.{file_fault, out_of_memory, bad_object_message}
use Rattle.hy_driver.proofs.Clauses as clauses
use Rattle.hy_driver.proofs.Clauses.{not_none}
use Rattle.hy_driver.proofs.Keeping as keeping
use Rattle.hy_driver.proofs.Statuses.{is_execution}
use Rattle.hy_driver.proofs.ThisRun.{input_is}

-- how a call may go that loads an object file whose bytes are known
data FileCourse (file bytes : List ℕ) (options : Options) (files_before files_after : Filed) (before after : Streams) : Answer → Type 0 where
  failed : files_after.faults ≡ suc files_before.faults → IsIdle before after
      → FileCourse file bytes options files_before files_after before after (bare 5 file_fault)
  no_memory : files_after.faults ≡ files_before.faults → IsIdle before after
      → FileCourse file bytes options files_before files_after before after (bare 8 out_of_memory)
  went_on : {it : Answer} → files_after.faults ≡ files_before.faults → FileMayAnswer file bytes options before after it
      → FileCourse file bytes options files_before files_after before after it

same_bytes : (whole bytes other : List ℕ) (h : _) → h ≡ Holding whole → Loads h longest_object bytes → other ≡ take (longest_object + 1) whole → bytes ≡ other
same_bytes whole bytes other h told loads is = let l : Loads (Holding whole) longest_object bytes =
    subst (λ h. Loads h longest_object bytes) told loads in l ∙ sym is

same_file : {x y : List ℕ} {o p : Options} → Some (ToExec x o) ≡ Some (ToExec y p) → x ≡ y
same_file e = cc

same_options : {x y : List ℕ} {o p : Options} → Some (ToExec x o) ≡ Some (ToExec y p) → o ≡ p
same_options e = cc

other_command : {x y : List ℕ} {options : Options} → Some (ToRun x) ≡ Some (ToExec y options) → ⊥
other_command e = cc

-- a file is no two things
one_object : (bytes : List ℕ) (one other : Object) → OneSpelling → IsFileOf bytes one → IsFileOf bytes other → one ≡ other
one_object bytes one other law is also = law one other is.1.0 also.1.0 (sym is.1.1 ∙ also.1.1)

not_bad : (bytes : List ℕ) (object : Object) (place : ℕ) → IsFileOf bytes object → IsBadFile bytes place → ⊥
not_bad bytes object place is (inl long) = let short = is.0 in let over = long.0 in omega (arith, short, over)
not_bad bytes object place is (inr bad) = bad.1.no_object object is.1

one_bad : (bytes : List ℕ) (one other : ℕ) → OnePlace → IsBadFile bytes one → IsBadFile bytes other → one ≡ other
one_bad bytes one other law (inl long) (inl also) = long.1 ∙ sym also.1
one_bad bytes one other law (inl long) (inr bad) = let over = long.0 in let short = bad.0 in absurd (omega (arith, over, short))
one_bad bytes one other law (inr bad) (inl long) = let over = long.0 in let short = bad.0 in absurd (omega (arith, over, short))
one_bad bytes one other law (inr bad) (inr also) = law bytes one other bad.1 also.1

-- STATUSES

done_0 : (stop : Stop) → (stop ≡ Ended end.Asks → ⊥) → status_of_stop stop ≡ 0 → stop ≡ Ended end.Done
done_0 (Ended end.Done) asks h = refl
done_0 (Ended (end.Trap kind span)) asks h = absurd (omega arith)
done_0 (Ended end.Spent) asks h = absurd (omega arith)
done_0 (Ended end.Asks) asks h = absurd (omega arith)
done_0 (Stuck why at) asks h = absurd (omega arith)

trap_3 : (stop : Stop) → (stop ≡ Ended end.Asks → ⊥) → status_of_stop stop ≡ 3 → IsTrapped stop
trap_3 (Ended end.Done) asks h = absurd (omega arith)
trap_3 (Ended (end.Trap kind span)) asks h = (kind, span, refl)
trap_3 (Ended end.Spent) asks h = absurd (omega arith)
trap_3 (Ended end.Asks) asks h = absurd (omega arith)
trap_3 (Stuck why at) asks h = absurd (omega arith)

pub spent_4 : (stop : Stop) → (stop ≡ Ended end.Asks → ⊥) → status_of_stop stop ≡ 4 → stop ≡ Ended end.Spent
spent_4 (Ended end.Done) asks h = absurd (omega arith)
spent_4 (Ended (end.Trap kind span)) asks h = absurd (omega arith)
spent_4 (Ended end.Spent) asks h = refl
spent_4 (Ended end.Asks) asks h = absurd (asks refl)
spent_4 (Stuck why at) asks h = absurd (omega arith)

stuck_9 : (stop : Stop) → (stop ≡ Ended end.Asks → ⊥) → status_of_stop stop ≡ 9 → IsStuck stop
stuck_9 (Ended end.Done) asks h = absurd (omega arith)
stuck_9 (Ended (end.Trap kind span)) asks h = absurd (omega arith)
stuck_9 (Ended end.Spent) asks h = absurd (omega arith)
stuck_9 (Ended end.Asks) asks h = absurd (omega arith)
stuck_9 (Stuck why at) asks h = (why, at, refl)

not_ten_stop : (stop : Stop) → status_of_stop stop ≡ 10 → ⊥
not_ten_stop (Ended end.Done) h = omega arith
not_ten_stop (Ended (end.Trap kind span)) h = omega arith
not_ten_stop (Ended end.Spent) h = omega arith
not_ten_stop (Ended end.Asks) h = omega arith
not_ten_stop (Stuck why at) h = omega arith

not_ten_cause : (by : RunCause) → cause_status by ≡ 10 → ⊥
not_ten_cause cause.Input h = omega arith
not_ten_cause cause.Output h = omega arith
not_ten_cause cause.NoMemory h = omega arith

module _ (words : List (List ℕ)) (files_before files_after : Filed) (before after : Streams) where
  abbrev c : Answer → Call
  c it = clauses.c words files_before files_after before after it

  abbrev MayAnswer : Answer → Type 0
  MayAnswer it = CallMayAnswer words files_before files_after before after it

  abbrev Course : List ℕ → Options → List ℕ → Answer → Type 0
  Course file options bytes it = FileCourse file bytes options files_before files_after before after it

  from_file : (file : List ℕ) (options : Options) (bytes : List ℕ) (it : Answer) → IsObjectFile (c it) file options bytes → MayAnswer it
      → Course file options bytes it
  from_file file options bytes it source (w.no_command none same idle) = absurd (not_none none source.command)
  from_file file options bytes it source (w.files_failed command may rose idle) = failed rose idle
  from_file file options bytes it source (w.not_loaded command same idle) = no_memory same idle
  from_file file options bytes it source (w.loaded command loads same follows) = absurd (other_command (sym command ∙ source.command))
  from_file file options bytes it source (w.loaded_object {file = other} {bytes = loaded_bytes} {options = others} command loads same executes) =
      let file_is : other ≡ file = same_file (sym command ∙ source.command) in
      let options_are : others ≡ options = same_options (sym command ∙ source.command) in
      let bytes_are : loaded_bytes ≡ bytes = same_bytes source.whole loaded_bytes bytes (files_before.holds other) (ap files_before.holds file_is
      ∙ source.told) loads source.loaded in
      went_on same
      (subst (λ o. FileMayAnswer file bytes o before after it) options_are
      (subst (λ b. FileMayAnswer file b others before after it) bytes_are (subst (λ f. FileMayAnswer f loaded_bytes others before after it) file_is executes)))

  -- THE RUN

  -- what a run that came to its end is, on what the input had left
  record IsEnded (n : ℕ) (left : List ℕ) (object : Object) (stop : Stop) (counts : Counts) : Type 0 where
    run : Run
    runs : Runs object left false n run
    stopped_so : run.stop ≡ stop
    same_counts : run.counts ≡ counts
    output : StillTells before.out after.out (Appends run.output)
    taken : StillTells before.input after.input (IsTaken left run.taken)

  is_ended : (it : Answer) (n : ℕ) (left : List ℕ) (object : Object) (stop : Stop) (counts : Counts) → IsInput (c it) left
      → IsStopped object n before after stop counts
      → IsEnded n left object stop counts
  is_ended it n left object stop counts input stopped =
      let ran = stopped.ran in
      let same_input : ran.input ≡ left = input_is ran.input left ran.run.taken input.old input.new before.input after.input input.told input.still
      input.left_of_it ran.taken in
      record {
        run = ran.run;
        runs = subst (λ i. Runs object i false n ran.run) same_input ran.runs;
        stopped_so = ran.stopped;
        same_counts = ran.same_counts;
        output = ran.output;
        taken = subst (λ i. StillTells before.input after.input (IsTaken i ran.run.taken)) same_input ran.taken;
      }

  is_run : (file : List ℕ) (options : Options) (bytes left : List ℕ) (object : Object) (stop : Stop) (counts : Counts)
      → IsInput (c (stopped_answer file options bytes stop counts)) left → IsStopped object options.turns before after stop counts
      → IsRunOfFile (c (stopped_answer file options bytes stop counts)) file options bytes left object
  is_run file options bytes left object stop counts input stopped =
      let ended = is_ended (stopped_answer file options bytes stop counts) options.turns left object stop counts input stopped in
      record {
        run = ended.run;
        runs = ended.runs;
        bytes_are = refl;
        counts = sym ended.same_counts;
        status = ap status_of_stop (sym ended.stopped_so);
        message = ap (stop_message file options.turns) (sym ended.stopped_so);
        output = ended.output;
        taken = ended.taken;
      }

  executed : (one_spelling : OneSpelling) (file : List ℕ) (options : Options) (bytes left : List ℕ) (object : Object) (it : Answer)
      → IsInput (c it) left → IsQuiet (c it) → IsFileOf bytes object
      → FileMayAnswer file bytes options before after it → IsRunOfFile (c it) file options bytes left object
  executed one_spelling file options bytes left object it input quiet is (w.bad {place = place} bad idle) = absurd (not_bad bytes object place is bad)
  executed one_spelling file options bytes left object it input quiet is (w.not_decoded idle) = absurd (quiet.memory refl)
  executed one_spelling file options bytes left object it input quiet is (w.stopped {object = other} {stop = stop} {counts = counts} also run) =
      is_run file options bytes left object stop counts input
      (subst (λ o. IsStopped o options.turns before after stop counts) (one_object bytes other object one_spelling also is) run)
  executed one_spelling file options bytes left object it input quiet is (w.stopped_without_message also run) = absurd (quiet.memory refl)
  executed one_spelling file options bytes left object it input quiet is (w.cut_short {fault = fault} also cut) =
      absurd (clauses.not_cut words files_before files_after before after fault.cause it quiet cut.faults refl)

  executed_from : (one_spelling : OneSpelling) (file : List ℕ) (options : Options) (bytes left : List ℕ) (object : Object) (it : Answer)
      → IsInput (c it) left → IsQuiet (c it) → IsFileOf bytes object
      → Course file options bytes it → IsRunOfFile (c it) file options bytes left object
  executed_from one_spelling file options bytes left object it input quiet is (failed rose idle) = let same = quiet.files in
      absurd (omega (arith, rose, same))
  executed_from one_spelling file options bytes left object it input quiet is (no_memory same idle) = absurd (quiet.memory refl)
  executed_from one_spelling file options bytes left object it input quiet is (went_on same executes) =
      executed one_spelling file options bytes left object it input quiet is executes

  pub executes_the_object : (it : Answer) → OneSpelling → MayAnswer it → ExecutesTheObject (c it)
  executes_the_object it one_spelling way file options bytes left object source input quiet is =
      executed_from one_spelling file options bytes left object it input quiet is (from_file file options bytes it source way)

  -- A FILE THAT IS BAD

  refused : (one_place : OnePlace) (file : List ℕ) (options : Options) (bytes : List ℕ) (place : ℕ) (it : Answer) → IsBadFile bytes place
      → FileMayAnswer file bytes options before after it → IsRefusedFile (c it) file place
  refused one_place file options bytes place it is (w.bad {place = other} bad idle) =
      let same : other ≡ place = one_bad bytes other place one_place bad is in
      record {
        answer = inl (refl, ap (bad_object_message file) same);
        nothing = clauses.made_nothing words files_before files_after before after it refl refl idle;
      }
  refused one_place file options bytes place it is (w.not_decoded idle) = record {
    answer = inr (inr refl);
    nothing = clauses.made_nothing words files_before files_after before after it refl refl idle;
  }
  refused one_place file options bytes place it is (w.stopped {object = object} also run) = absurd (not_bad bytes object place also is)
  refused one_place file options bytes place it is (w.stopped_without_message {object = object} also run) = absurd (not_bad bytes object place also is)
  refused one_place file options bytes place it is (w.cut_short {object = object} also cut) = absurd (not_bad bytes object place also is)

  refused_from : (one_place : OnePlace) (file : List ℕ) (options : Options) (bytes : List ℕ) (place : ℕ) (it : Answer) → IsBadFile bytes place
      → Course file options bytes it → IsRefusedFile (c it) file place
  refused_from one_place file options bytes place it is (failed rose idle) = record {
    answer = inr (inl rose);
    nothing = clauses.made_nothing words files_before files_after before after it refl refl idle;
  }
  refused_from one_place file options bytes place it is (no_memory same idle) = record {
    answer = inr (inr refl);
    nothing = clauses.made_nothing words files_before files_after before after it refl refl idle;
  }
  refused_from one_place file options bytes place it is (went_on same executes) = refused one_place file options bytes place it is executes

  pub refuses_the_file : (it : Answer) → OnePlace → MayAnswer it → RefusesTheFile (c it)
  refuses_the_file it one_place way file options bytes place source is =
      refused_from one_place file options bytes place it is (from_file file options bytes it source way)

  -- AFTER A FAULT

  keeps : (one_spelling : OneSpelling) (file : List ℕ) (options : Options) (bytes : List ℕ) (object : Object) (it : Answer) → IsFileOf bytes object
      → FileMayAnswer file bytes options before after it → IsNotRun (c it) ⊎ Ran (c it) object options.turns (stop_message file options.turns)
  keeps one_spelling file options bytes object it is (w.bad {place = place} bad idle) = absurd (not_bad bytes object place is bad)
  keeps one_spelling file options bytes object it is (w.not_decoded idle) =
      inl (keeping.is_not_run words files_before files_after before after it refl (inr refl) idle)
  keeps one_spelling file options bytes object it is (w.stopped {object = other} {stop = stop} also run) =
      inr (subst (λ o. Ran (c it) o options.turns (stop_message file options.turns)) (one_object bytes other object one_spelling also is)
      (keeping.came_to_its_end words files_before files_after before after other options.turns (stop_message file options.turns) stop it run
      (inl (refl, refl))))
  keeps one_spelling file options bytes object it is (w.stopped_without_message {object = other} {stop = stop} also run) =
      inr (subst (λ o. Ran (c it) o options.turns (stop_message file options.turns)) (one_object bytes other object one_spelling also is)
      (keeping.came_to_its_end words files_before files_after before after other options.turns (stop_message file options.turns) stop it run (inr refl)))
  keeps one_spelling file options bytes object it is (w.cut_short {object = other} {fault = fault} also cut) =
      inr (subst (λ o. Ran (c it) o options.turns (stop_message file options.turns)) (one_object bytes other object one_spelling also is)
      (keeping.was_cut_off words files_before files_after before after other options.turns (stop_message file options.turns) fault it refl refl cut))

  keeps_from : (one_spelling : OneSpelling) (file : List ℕ) (options : Options) (bytes : List ℕ) (object : Object) (it : Answer) → IsFileOf bytes object
      → Course file options bytes it → IsNotRun (c it) ⊎ Ran (c it) object options.turns (stop_message file options.turns)
  keeps_from one_spelling file options bytes object it is (failed rose idle) =
      inl (keeping.is_not_run words files_before files_after before after it refl (inl rose) idle)
  keeps_from one_spelling file options bytes object it is (no_memory same idle) =
      inl (keeping.is_not_run words files_before files_after before after it refl (inr refl) idle)
  keeps_from one_spelling file options bytes object it is (went_on same executes) = keeps one_spelling file options bytes object it is executes

  pub keeps_to_the_file : (it : Answer) → OneSpelling → MayAnswer it → KeepsToTheFile (c it)
  keeps_to_the_file it one_spelling way file options bytes object source is =
      keeps_from one_spelling file options bytes object it is (from_file file options bytes it source way)

  abbrev AreReturned : List ℕ → Answer → Type 0
  AreReturned bytes it = IsReturned (c it) (λ returned. returned ≡ bytes)

  not_returned : (bytes : List ℕ) (it : Answer) → it.object ≡ [] → (files_after.faults ≡ files_before.faults → it.status ≡ 8) → IsIdle before after
      → AreReturned bytes it
  not_returned bytes it = clauses.not_returned words files_before files_after before after (λ returned. returned ≡ bytes) it

  returned : (bytes : List ℕ) (it : Answer) → it.object ≡ bytes → AreReturned bytes it
  returned bytes it = clauses.is_returned words files_before files_after before after (λ returned. returned ≡ bytes) it

  returns : (file : List ℕ) (options : Options) (bytes : List ℕ) (object : Object) (it : Answer) → IsFileOf bytes object
      → FileMayAnswer file bytes options before after it → AreReturned bytes it
  returns file options bytes object it is (w.bad {place = place} bad idle) = absurd (not_bad bytes object place is bad)
  returns file options bytes object it is (w.not_decoded idle) = not_returned bytes it refl (λ files. refl) idle
  returns file options bytes object it is (w.stopped also run) = returned bytes it refl
  returns file options bytes object it is (w.stopped_without_message also run) = returned bytes it refl
  returns file options bytes object it is (w.cut_short also cut) = returned bytes it refl

  returns_from : (file : List ℕ) (options : Options) (bytes : List ℕ) (object : Object) (it : Answer) → IsFileOf bytes object
      → Course file options bytes it → AreReturned bytes it
  returns_from file options bytes object it is (failed rose idle) = not_returned bytes it refl (λ files. absurd (omega (arith, rose, files))) idle
  returns_from file options bytes object it is (no_memory same idle) = not_returned bytes it refl (λ files. refl) idle
  returns_from file options bytes object it is (went_on same executes) = returns file options bytes object it is executes

  pub returns_the_bytes : (it : Answer) → MayAnswer it → ReturnsTheBytes (c it)
  returns_the_bytes it way file options bytes object source is = returns_from file options bytes object it is (from_file file options bytes it source way)

  -- CAUSES

  -- a status that a run that came to its end may have
  record IsStopStatus (status : ℕ) (Is : Stop → Type 0) : Type 0 where
    not_10 : status ≡ 10 → ⊥
    forth : (stop : Stop) → (stop ≡ Ended end.Asks → ⊥) → status_of_stop stop ≡ status → Is stop
    back : (stop : Stop) → Is stop → status_of_stop stop ≡ status

  stops_so : (file : List ℕ) (options : Options) (bytes left : List ℕ) (status : ℕ) (Is : Stop → Type 0) (it : Answer) → IsStopStatus status Is
      → IsInput (c it) left → IsQuiet (c it) → it.status ≡ status
      → FileMayAnswer file bytes options before after it → Stops bytes left options.turns Is
  stops_so file options bytes left status Is it kind input quiet is (w.bad bad idle) = absurd (kind.not_10 (sym is))
  stops_so file options bytes left status Is it kind input quiet is (w.not_decoded idle) = absurd (quiet.memory refl)
  stops_so file options bytes left status Is it kind input quiet is (w.stopped {object = object} {stop = stop} {counts = counts} of_file run) =
      let ended = is_ended it options.turns left object stop counts input run in
      (object, of_file, (ended.run, ended.runs, subst Is (sym ended.stopped_so) (kind.forth stop run.no_asks is)))
  stops_so file options bytes left status Is it kind input quiet is (w.stopped_without_message of_file run) = absurd (quiet.memory refl)
  stops_so file options bytes left status Is it kind input quiet is (w.cut_short {fault = fault} of_file cut) =
      absurd (clauses.not_cut words files_before files_after before after fault.cause it quiet cut.faults refl)

  stops_from : (file : List ℕ) (options : Options) (bytes left : List ℕ) (status : ℕ) (Is : Stop → Type 0) (it : Answer) → IsStopStatus status Is
      → IsInput (c it) left → IsQuiet (c it) → it.status ≡ status → Course file options bytes it → Stops bytes left options.turns Is
  stops_from file options bytes left status Is it kind input quiet is (failed rose idle) = let same = quiet.files in absurd (omega (arith, rose, same))
  stops_from file options bytes left status Is it kind input quiet is (no_memory same idle) = absurd (quiet.memory refl)
  stops_from file options bytes left status Is it kind input quiet is (went_on same executes) =
      stops_so file options bytes left status Is it kind input quiet is executes

  answers_stop : (status : ℕ) (Is : Stop → Type 0) (it : Answer) → IsStopStatus status Is → OneRun → OneSpelling → MayAnswer it
      → AnswersStop status Is (c it)
  answers_stop status Is it kind one_run one_spelling way file options bytes left source input quiet = (
    (λ is. stops_from file options bytes left status Is it kind input quiet is (from_file file options bytes it source way)),
    (λ stops.
        let object = stops.0 in
        let ran = executes_the_object it one_spelling way file options bytes left object source input quiet stops.1 in
        let same : ran.run ≡ stops.2.0 = one_run object left false options.turns ran.run stops.2.0 ran.runs stops.2.1 in
        ran.status ∙ ap (λ r. status_of_stop r.stop) same ∙ kind.back stops.2.0.stop stops.2.2),
  )

  pub answers_its_end : (it : Answer) → OneRun → OneSpelling → MayAnswer it → AnswersItsEnd (c it)
  answers_its_end it one_run one_spelling way = record {
    done = answers_stop 0 (λ stop. stop ≡ Ended end.Done) it (record {
      not_10 = λ h. omega arith;
      forth = done_0;
      back =
          λ stop h. ap status_of_stop h;
    }) one_run one_spelling way;
    trapped = answers_stop 3 IsTrapped it (record {
      not_10 = λ h. omega arith;
      forth = trap_3;
      back = λ stop h.
          ap status_of_stop h.2;
    }) one_run one_spelling way;
    spent = answers_stop 4 (λ stop. stop ≡ Ended end.Spent) it (record {
      not_10 = λ h. omega arith;
      forth = spent_4;
      back =
          λ stop h. ap status_of_stop h;
    }) one_run one_spelling way;
  }

  -- a status that `run` has not
  only_exec : (status : ℕ) (it : Answer) → 9 ≤ status → MayAnswer it → it.status ≡ status → IsExecution (c it)
  only_exec status it high way is = is_execution words files_before files_after before after it (omega (arith, high, is)) way

  pub answers_9 : (it : Answer) → OneRun → OneSpelling → MayAnswer it → Answers9 (c it)
  answers_9 it one_run one_spelling way = record {
    only = only_exec 9 it (omega arith) way;
    stuck = answers_stop 9 IsStuck it (record {
      not_10 = λ h. omega arith;
      forth = stuck_9;
      back = λ stop h.
          ap status_of_stop h.2;
    }) one_run one_spelling way;
  }

  bad_so : (file : List ℕ) (options : Options) (bytes : List ℕ) (it : Answer) → it.status ≡ 10 → FileMayAnswer file bytes options before after it
      → (place : ℕ) × IsBadFile bytes place
  bad_so file options bytes it is (w.bad {place = place} bad idle) = (place, bad)
  bad_so file options bytes it is (w.not_decoded idle) = absurd (omega arith)
  bad_so file options bytes it is (w.stopped {stop = stop} of_file run) = absurd (not_ten_stop stop is)
  bad_so file options bytes it is (w.stopped_without_message of_file run) = absurd (omega arith)
  bad_so file options bytes it is (w.cut_short {fault = fault} of_file cut) = absurd (not_ten_cause fault.cause is)

  bad_from : (file : List ℕ) (options : Options) (bytes : List ℕ) (it : Answer) → it.status ≡ 10 → Course file options bytes it → (place : ℕ)
      × IsBadFile bytes place
  bad_from file options bytes it is (failed rose idle) = absurd (omega arith)
  bad_from file options bytes it is (no_memory same idle) = absurd (omega arith)
  bad_from file options bytes it is (went_on same executes) = bad_so file options bytes it is executes

  pub answers_10 : (it : Answer) → OnePlace → MayAnswer it → Answers10 (c it)
  answers_10 it one_place way = record {
    only = only_exec 10 it (omega arith) way;
    bad = λ file options bytes source quiet. (
      (λ is. bad_from file options bytes it is (from_file file options bytes it source way)),
      (λ bad. (clauses.unless_prevented words files_before files_after before after it _ quiet
          (refuses_the_file it one_place way file options bytes bad.0 source bad.1).answer).0),
    );
  }
