-- The statuses of faults and their causes, and what is left alone.
use Rattle.std.proofs.Common.{◌≡◌, ℕ, suc, List, Some, None, refl, ap, inl, inr, arith}
use Rattle.hy_base.specs.declared.run.End.{End}
use Rattle.hy_base.specs.declared.run.End.TheVariants as end
use Rattle.hy_base.specs.declared.run.RunCause.{RunCause}
use Rattle.hy_base.specs.declared.run.RunCause.TheVariants as cause
use Rattle.hy_object.specs.declared.object.Object.{Object}
use Rattle.hy_object.specs.States.{Stop, Ended, Stuck}
use Rattle.hy_runs.specs.Runs.{CountsCause}
use Rattle.hy_driver.specs.Call.{Answer, Call, Filed, Streams}
use Rattle.hy_driver.specs.Course as w
use Rattle.hy_driver.specs.Course.{RunMayAnswer, FileMayAnswer, SourceMayAnswer, CallMayAnswer}
use Rattle.hy_driver.specs.Headline.{status_of}
use Rattle.hy_driver.specs.Kept.{status_of_stop, cause_status, faults_of}
use Rattle.hy_driver.specs.Outside.{IsIdle, RisesByOne, HasOneFault, LeavesAllAlone, StopsAtTheFiles, Answers2, Answers5, Answers6, Answers7}
use Rattle.hy_driver.specs.Texts.{usage, file_fault}
use Rattle.hy_words.specs.declared.words.Options.{Options}
use Rattle.hy_words.specs.Asked.{Asked, ToRun, ToExec, file_of}
use Rattle.hy_words.specs.Commands.{command_of}
use Rattle.hy_driver.proofs.Clauses as clauses
use Rattle.hy_driver.proofs.Clauses.{not_none}

-- a status that is none of those of a fault outside, nor that of words that are no command
record IsInner (it : Answer) : Type 0 where
  not_2 : it.status ≡ 2 → ⊥
  not_5 : it.status ≡ 5 → ⊥
  not_6 : it.status ≡ 6 → ⊥
  not_7 : it.status ≡ 7 → ⊥

-- What a way comes to.
data Summarizes (words : List (List ℕ)) (files_before files_after : Filed) (before after : Streams) : Answer → Type 0 where
  at_words : {it : Answer} → it ≡ w.bare 2 usage → command_of words ≡ None → files_after.faults ≡ files_before.faults → IsIdle before after
      → Summarizes words files_before files_after before after it
  at_files : {it : Answer} {asked : Asked} → it ≡ w.bare 5 file_fault → command_of words ≡ Some asked → files_before.load_may_fail (file_of asked)
      → files_after.faults ≡ suc files_before.faults → IsIdle before after
      → Summarizes words files_before files_after before after it
  at_input : {it : Answer} {asked : Asked} → it.status ≡ 6 → command_of words ≡ Some asked → files_after.faults ≡ files_before.faults
      → after.input_faults ≡ suc before.input_faults → after.out_faults ≡ before.out_faults
      → Summarizes words files_before files_after before after it
  at_out : {it : Answer} {asked : Asked} → it.status ≡ 7 → command_of words ≡ Some asked → files_after.faults ≡ files_before.faults
      → after.input_faults ≡ before.input_faults → after.out_faults ≡ suc before.out_faults
      → Summarizes words files_before files_after before after it
  inside : {it : Answer} {asked : Asked} → IsInner it → command_of words ≡ Some asked → files_after.faults ≡ files_before.faults
      → after.input_faults ≡ before.input_faults → after.out_faults ≡ before.out_faults
      → Summarizes words files_before files_after before after it

inner_end : (e : End) → (status_of e ≡ 2 → ⊥) × (status_of e ≡ 5 → ⊥) × (status_of e ≡ 6 → ⊥) × (status_of e ≡ 7 → ⊥)
inner_end end.Done = ((λ h. omega arith), (λ h. omega arith), (λ h. omega arith), (λ h. omega arith))
inner_end (end.Trap kind span) = ((λ h. omega arith), (λ h. omega arith), (λ h. omega arith), (λ h. omega arith))
inner_end end.Spent = ((λ h. omega arith), (λ h. omega arith), (λ h. omega arith), (λ h. omega arith))
inner_end end.Asks = ((λ h. omega arith), (λ h. omega arith), (λ h. omega arith), (λ h. omega arith))

inner_stop : (stop : Stop) → (status_of_stop stop ≡ 2 → ⊥) × (status_of_stop stop ≡ 5 → ⊥) × (status_of_stop stop ≡ 6 → ⊥) × (status_of_stop stop ≡ 7 → ⊥)
inner_stop (Ended e) = inner_end e
inner_stop (Stuck why at) = ((λ h. omega arith), (λ h. omega arith), (λ h. omega arith), (λ h. omega arith))

module _ (words : List (List ℕ)) (files_before files_after : Filed) (before after : Streams) where
  abbrev c : Answer → Call
  c it = clauses.c words files_before files_after before after it

  abbrev Sum : Answer → Type 0
  Sum it = Summarizes words files_before files_after before after it

  abbrev MayAnswer : Answer → Type 0
  MayAnswer it = CallMayAnswer words files_before files_after before after it

  sums_cut : (asked : Asked) (it : Answer) (by : RunCause) → it.status ≡ cause_status by → command_of words ≡ Some asked
      → files_after.faults ≡ files_before.faults
      → CountsCause by (faults_of before) (faults_of after) → Sum it
  sums_cut asked it cause.Input is command same faults = at_input is command same faults.0 faults.1
  sums_cut asked it cause.Output is command same faults = at_out is command same faults.0 faults.1
  sums_cut asked it cause.NoMemory is command same faults =
      inside (record { not_2 = λ h. omega arith; not_5 = λ h. omega arith; not_6 = λ h. omega arith; not_7 = λ h. omega arith }) command same faults.0 faults.1

  sums_executed : (name bytes : List ℕ) (object : Object) (it : Answer) → command_of words ≡ Some (ToRun name)
      → files_after.faults ≡ files_before.faults → RunMayAnswer name bytes object before after it → Sum it
  sums_executed name bytes object it command same (w.ended {ending = ending} run) =
      let inner_is = inner_end ending.end in
      inside (record { not_2 = inner_is.0; not_5 = inner_is.1; not_6 = inner_is.2; not_7 = inner_is.3 }) command same run.stopped.faults.0 run.stopped.faults.1
  sums_executed name bytes object it command same (w.ended_without_message run) =
      inside (record { not_2 = λ h. omega arith; not_5 = λ h. omega arith; not_6 = λ h. omega arith; not_7 = λ h. omega arith }) command same
      run.stopped.faults.0 run.stopped.faults.1
  sums_executed name bytes object it command same (w.cut_off {fault = fault} cut) = sums_cut (ToRun name) it fault.cause refl command same cut.cut_short.faults

  sums_followed : (name bytes : List ℕ) (it : Answer) → command_of words ≡ Some (ToRun name) → files_after.faults ≡ files_before.faults
      → SourceMayAnswer name bytes before after it → Sum it
  sums_followed name bytes it command same (w.refused first idle) =
      inside (record { not_2 = λ h. omega arith; not_5 = λ h. omega arith; not_6 = λ h. omega arith; not_7 = λ h. omega arith }) command same
      idle.input_faults idle.out_faults
  sums_followed name bytes it command same (w.not_compiled idle) =
      inside (record { not_2 = λ h. omega arith; not_5 = λ h. omega arith; not_6 = λ h. omega arith; not_7 = λ h. omega arith }) command same
      idle.input_faults idle.out_faults
  sums_followed name bytes it command same (w.executed {object = object} made executes) = sums_executed name bytes object it command same executes

  sums_file : (name bytes : List ℕ) (options : Options) (it : Answer) → command_of words ≡ Some (ToExec name options)
      → files_after.faults ≡ files_before.faults → FileMayAnswer name bytes options before after it → Sum it
  sums_file name bytes options it command same (w.bad bad idle) =
      inside (record { not_2 = λ h. omega arith; not_5 = λ h. omega arith; not_6 = λ h. omega arith; not_7 = λ h. omega arith }) command same
      idle.input_faults idle.out_faults
  sums_file name bytes options it command same (w.not_decoded idle) =
      inside (record { not_2 = λ h. omega arith; not_5 = λ h. omega arith; not_6 = λ h. omega arith; not_7 = λ h. omega arith }) command same
      idle.input_faults idle.out_faults
  sums_file name bytes options it command same (w.stopped {stop = stop} is run) =
      let inner_is = inner_stop stop in
      inside (record { not_2 = inner_is.0; not_5 = inner_is.1; not_6 = inner_is.2; not_7 = inner_is.3 }) command same run.faults.0 run.faults.1
  sums_file name bytes options it command same (w.stopped_without_message is run) =
      inside (record { not_2 = λ h. omega arith; not_5 = λ h. omega arith; not_6 = λ h. omega arith; not_7 = λ h. omega arith }) command same
      run.faults.0 run.faults.1
  sums_file name bytes options it command same (w.cut_short {fault = fault} is cut) =
      sums_cut (ToExec name options) it fault.cause refl command same cut.faults

  sums : (it : Answer) → MayAnswer it → Sum it
  sums it (w.no_command none same idle) = at_words refl none same idle
  sums it (w.files_failed command may rose idle) = at_files refl command may rose idle
  sums it (w.not_loaded command same idle) =
      inside (record { not_2 = λ h. omega arith; not_5 = λ h. omega arith; not_6 = λ h. omega arith; not_7 = λ h. omega arith }) command same
      idle.input_faults idle.out_faults
  sums it (w.loaded {file = name} {bytes = bytes} command loads same follows) = sums_followed name bytes it command same follows
  sums it (w.loaded_object {file = name} {bytes = bytes} {options = options} command loads same executes) =
      sums_file name bytes options it command same executes

  -- THE OUTSIDE

  left_alone : (it : Answer) → Sum it → LeavesAllAlone (c it)
  left_alone it (at_words is none same idle) no_command = record {
    files = same;
    nothing = clauses.made_nothing words files_before files_after before after it (ap (λ a. a.object) is) (ap (λ a. a.counts) is) idle;
  }
  left_alone it (at_files is command may rose idle) no_command = absurd (not_none no_command command)
  left_alone it (at_input is command same rose out_same) no_command = absurd (not_none no_command command)
  left_alone it (at_out is command same input_same rose) no_command = absurd (not_none no_command command)
  left_alone it (inside is command same input_same out_same) no_command = absurd (not_none no_command command)

  pub leaves_all_alone : (it : Answer) → MayAnswer it → LeavesAllAlone (c it)
  leaves_all_alone it way = left_alone it (sums it way)

  stops : (it : Answer) → Sum it → StopsAtTheFiles (c it)
  stops it (at_words is none same idle) rose = absurd (omega (arith, same, rose))
  stops it (at_files is command may also idle) rose =
      clauses.made_nothing words files_before files_after before after it (ap (λ a. a.object) is) (ap (λ a. a.counts) is) idle
  stops it (at_input is command same input_rose out_same) rose = absurd (omega (arith, same, rose))
  stops it (at_out is command same input_same out_rose) rose = absurd (omega (arith, same, rose))
  stops it (inside is command same input_same out_same) rose = absurd (omega (arith, same, rose))

  pub stops_at_the_files : (it : Answer) → MayAnswer it → StopsAtTheFiles (c it)
  stops_at_the_files it way = stops it (sums it way)

  one : (it : Answer) → Sum it → HasOneFault (c it)
  one it (at_words is none same idle) = let i = idle.input_faults in let o = idle.out_faults in
      record { files = inl same; input = inl i; out = inl o; one = omega (arith, same, i, o) }
  one it (at_files is command may rose idle) = let i = idle.input_faults in let o = idle.out_faults in
      record { files = inr rose; input = inl i; out = inl o; one = omega (arith, rose, i, o) }
  one it (at_input is command same rose out_same) = record {
    files = inl same;
    input = inr rose;
    out = inl out_same;
    one = omega (arith, same, rose, out_same);
  }
  one it (at_out is command same input_same rose) =
      record { files = inl same; input = inl input_same; out = inr rose; one = omega (arith, same, input_same, rose) }
  one it (inside is command same input_same out_same) =
      record { files = inl same; input = inl input_same; out = inl out_same; one = omega (arith, same, input_same, out_same) }

  pub has_one_fault : (it : Answer) → MayAnswer it → HasOneFault (c it)
  has_one_fault it way = one it (sums it way)

  -- CAUSES

  status_is : {it other : Answer} → it ≡ other → it.status ≡ other.status
  status_is e = ap (λ a. a.status) e

  none_when_2 : (it : Answer) → it.status ≡ 2 → Sum it → command_of words ≡ None
  none_when_2 it is (at_words how none same idle) = none
  none_when_2 it is (at_files how command may rose idle) = let five = status_is how in absurd (omega (arith, five, is))
  none_when_2 it is (at_input six command same rose out_same) = absurd (omega arith)
  none_when_2 it is (at_out seven command same input_same rose) = absurd (omega arith)
  none_when_2 it is (inside how command same input_same out_same) = absurd (how.not_2 is)

  two_when_none : (it : Answer) → command_of words ≡ None → Sum it → it.status ≡ 2
  two_when_none it none (at_words how also same idle) = status_is how
  two_when_none it none (at_files how command may rose idle) = absurd (not_none none command)
  two_when_none it none (at_input six command same rose out_same) = absurd (not_none none command)
  two_when_none it none (at_out seven command same input_same rose) = absurd (not_none none command)
  two_when_none it none (inside how command same input_same out_same) = absurd (not_none none command)

  pub answers_2 : (it : Answer) → MayAnswer it → Answers2 (c it)
  answers_2 it way = ((λ is. none_when_2 it is (sums it way)), (λ none. two_when_none it none (sums it way)))

  rose_when_5 : (it : Answer) → it.status ≡ 5 → Sum it → RisesByOne files_before.faults files_after.faults
      × ((asked : Asked) × (command_of words ≡ Some asked) × files_before.load_may_fail (file_of asked))
  rose_when_5 it is (at_words how none same idle) = let two = status_is how in absurd (omega (arith, two, is))
  rose_when_5 it is (at_files {asked = asked} how command may rose idle) = (rose, (asked, command, may))
  rose_when_5 it is (at_input six command same rose out_same) = absurd (omega arith)
  rose_when_5 it is (at_out seven command same input_same rose) = absurd (omega arith)
  rose_when_5 it is (inside how command same input_same out_same) = absurd (how.not_5 is)

  five_when_rose : (it : Answer) → RisesByOne files_before.faults files_after.faults → Sum it → it.status ≡ 5
  five_when_rose it risen (at_words how none same idle) = absurd (omega arith)
  five_when_rose it risen (at_files how command may rose idle) = status_is how
  five_when_rose it risen (at_input six command same rose out_same) = absurd (omega arith)
  five_when_rose it risen (at_out seven command same input_same rose) = absurd (omega arith)
  five_when_rose it risen (inside how command same input_same out_same) = absurd (omega arith)

  pub answers_5 : (it : Answer) → MayAnswer it → Answers5 (c it)
  answers_5 it way = record {
    exactly = ((λ is. (rose_when_5 it is (sums it way)).0), (λ rose. five_when_rose it rose (sums it way)));
    cause = λ is. (rose_when_5 it is (sums it way)).1;
  }

  rose_when_6 : (it : Answer) → it.status ≡ 6 → Sum it → RisesByOne before.input_faults after.input_faults
  rose_when_6 it is (at_words how none same idle) = let two = status_is how in absurd (omega (arith, two, is))
  rose_when_6 it is (at_files how command may rose idle) = let five = status_is how in absurd (omega (arith, five, is))
  rose_when_6 it is (at_input six command same rose out_same) = rose
  rose_when_6 it is (at_out seven command same input_same rose) = absurd (omega arith)
  rose_when_6 it is (inside how command same input_same out_same) = absurd (how.not_6 is)

  six_when_rose : (it : Answer) → RisesByOne before.input_faults after.input_faults → Sum it → it.status ≡ 6
  six_when_rose it risen (at_words how none same idle) = let i = idle.input_faults in absurd (omega (arith, i, risen))
  six_when_rose it risen (at_files how command may rose idle) = let i = idle.input_faults in absurd (omega (arith, i, risen))
  six_when_rose it risen (at_input six command same rose out_same) = six
  six_when_rose it risen (at_out seven command same input_same rose) = absurd (omega arith)
  six_when_rose it risen (inside how command same input_same out_same) = absurd (omega arith)

  pub answers_6 : (it : Answer) → MayAnswer it → Answers6 (c it)
  answers_6 it way = ((λ is. rose_when_6 it is (sums it way)), (λ rose. six_when_rose it rose (sums it way)))

  rose_when_7 : (it : Answer) → it.status ≡ 7 → Sum it → RisesByOne before.out_faults after.out_faults
  rose_when_7 it is (at_words how none same idle) = let two = status_is how in absurd (omega (arith, two, is))
  rose_when_7 it is (at_files how command may rose idle) = let five = status_is how in absurd (omega (arith, five, is))
  rose_when_7 it is (at_input six command same rose out_same) = absurd (omega arith)
  rose_when_7 it is (at_out seven command same input_same rose) = rose
  rose_when_7 it is (inside how command same input_same out_same) = absurd (how.not_7 is)

  seven_when_rose : (it : Answer) → RisesByOne before.out_faults after.out_faults → Sum it → it.status ≡ 7
  seven_when_rose it risen (at_words how none same idle) = let o = idle.out_faults in absurd (omega (arith, o, risen))
  seven_when_rose it risen (at_files how command may rose idle) = let o = idle.out_faults in absurd (omega (arith, o, risen))
  seven_when_rose it risen (at_input six command same rose out_same) = absurd (omega arith)
  seven_when_rose it risen (at_out seven command same input_same rose) = seven
  seven_when_rose it risen (inside how command same input_same out_same) = absurd (omega arith)

  pub answers_7 : (it : Answer) → MayAnswer it → Answers7 (c it)
  answers_7 it way = ((λ is. rose_when_7 it is (sums it way)), (λ rose. seven_when_rose it rose (sums it way)))
