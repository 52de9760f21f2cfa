-- The clauses of the top call on a source and its object follow from the way that it goes.
use Rattle.std.proofs.Common.{◌≡◌, ◌⊎◌, ◌+◌, ℕ, suc, List, [], take, Option, Some, None, refl, sym, ◌∙◌, ap, subst, inl, inr, arith}
use Rattle.hy_base.specs.declared.run.RunCause.{RunCause}
use Rattle.hy_base.specs.declared.run.RunCause.TheVariants as cause
use Rattle.hy_base.specs.Counted.{no_counts}
use Rattle.hy_base.specs.Files.{Holding, Loads}
use Rattle.hy_base.specs.First.{Refusal, IsFirst}
use Rattle.hy_tree.specs.Tree.{Program}
use Rattle.hy_base.proofs.OneFirst.{one_first}
use Rattle.hy_front.specs.Phases.{longest, IsTree, Breaks}
use Rattle.hy_object.specs.declared.object.Object.{Object}
use Rattle.hy_object.specs.Bytes.{bytes_of}
use Rattle.hy_driver.specs.Compiled.{IsCompiled}
use Rattle.hy_runs.specs.Runs.{CountsCause}
use Rattle.hy_driver.specs.Call.{Answer, Call, Filed, Streams, call_of, IsSource, IsQuiet}
use Rattle.hy_driver.specs.Course as w
use Rattle.hy_driver.specs.Course.{bare, IsObjectOf, RunMayAnswer, SourceMayAnswer, CallMayAnswer}
use Rattle.hy_driver.specs.Headline.{RefusesTheFirst, IsRefused, IsReturned, ReturnsTheObject, IsCode}
use Rattle.hy_driver.specs.Kept.{faults_of, cause_status}
use Rattle.hy_driver.specs.Outside.{IsIdle, RisesByOne, RanNothing, MadeNothing, IsPrevented}
use Rattle.hy_driver.specs.Texts.{refusal_message, file_fault, out_of_memory}
use Rattle.hy_words.specs.Asked.{Asked, ToRun, ToExec}

-- a source has at most one tree
abbrev pub OneTree : Type 0
OneTree = (bytes : List ℕ) (one other : Program) → IsTree bytes one → IsTree bytes other → one ≡ other

-- how a call may go that loads a file whose bytes are known
pub data SourceCourse (file bytes : List ℕ) (files_before files_after : Filed) (before after : Streams) : Answer → Type 0 where
  failed : files_after.faults ≡ suc files_before.faults → IsIdle before after
      → SourceCourse file bytes files_before files_after before after (bare 5 file_fault)
  no_memory : files_after.faults ≡ files_before.faults → IsIdle before after
      → SourceCourse file bytes files_before files_after before after (bare 8 out_of_memory)
  went_on : {it : Answer} → files_after.faults ≡ files_before.faults → SourceMayAnswer file bytes before after it
      → SourceCourse file bytes files_before files_after before after it

same_bytes : (whole bytes other : List ℕ) (h : _) → h ≡ Holding whole → Loads h longest bytes → other ≡ take (longest + 1) whole → bytes ≡ other
same_bytes whole bytes other h told loads is = let l : Loads (Holding whole) longest bytes = subst (λ h. Loads h longest bytes) told loads in l ∙ sym is

some_is : {x y : List ℕ} → Some (ToRun x) ≡ Some (ToRun y) → x ≡ y
some_is e = cc

other_command : {x y : List ℕ} {options : _} → Some (ToExec x options) ≡ Some (ToRun y) → ⊥
other_command e = cc

pub not_none : {x : Asked} {o : Option Asked} → o ≡ None → o ≡ Some x → ⊥
not_none a b = cc

-- no stream fails where nothing is run
idle_rose : (before after : Streams) → IsIdle before after → RisesByOne before.input_faults after.input_faults ⊎ RisesByOne before.out_faults after.out_faults
    → ⊥
idle_rose before after idle (inl rose) = let same = idle.input_faults in omega (arith, same, rose)
idle_rose before after idle (inr rose) = let same = idle.out_faults in omega (arith, same, rose)

module _ (words : List (List ℕ)) (files_before files_after : Filed) (before after : Streams) where
  abbrev pub c : Answer → Call
  c it = call_of words files_before files_after before after it

  -- WHAT IS MADE AND RETURNED

  pub ran_nothing : (it : Answer) → it.counts ≡ no_counts → IsIdle before after → RanNothing (c it)
  ran_nothing it zeros idle = record { idle = idle; counts = zeros }

  pub made_nothing : (it : Answer) → it.object ≡ [] → it.counts ≡ no_counts → IsIdle before after → MadeNothing (c it)
  made_nothing it none zeros idle = record { nothing = ran_nothing it zeros idle; object = none }

  pub not_returned : (IsIt : List ℕ → Type 0) (it : Answer) → it.object ≡ [] → (files_after.faults ≡ files_before.faults → it.status ≡ 8)
      → IsIdle before after → IsReturned (c it) IsIt
  not_returned IsIt it none want idle = record {
    whole = λ files no_want. absurd (no_want (want files));
    either = inl none;
    cut = λ rose. absurd (idle_rose before after idle rose);
  }

  pub is_returned : (IsIt : List ℕ → Type 0) (it : Answer) → IsIt it.object → IsReturned (c it) IsIt
  is_returned IsIt it is = record { whole = λ files no_want. is; either = inr is; cut = λ rose. is }

  -- WHERE NOTHING FAILS

  pub unless_prevented : (it : Answer) (P : Type 0) → IsQuiet (c it) → P ⊎ IsPrevented (c it) → P
  unless_prevented it P quiet (inl is) = is
  unless_prevented it P quiet (inr (inl rose)) = let same = quiet.files in absurd (omega (arith, rose, same))
  unless_prevented it P quiet (inr (inr want)) = absurd (quiet.memory want)

  pub not_cut : (by : RunCause) (it : Answer) → IsQuiet (c it) → CountsCause by (faults_of before) (faults_of after) → it.status ≡ cause_status by → ⊥
  not_cut cause.Input it quiet rose status = let same = quiet.input in let r = rose.0 in omega (arith, r, same)
  not_cut cause.Output it quiet rose status = let same = quiet.out in let r = rose.1 in omega (arith, r, same)
  not_cut cause.NoMemory it quiet rose status = quiet.memory status

  -- THE BYTES THAT ARE LOADED

  pub from_source : (file bytes : List ℕ) (it : Answer) → IsSource (c it) file bytes → CallMayAnswer words files_before files_after before after it
      → SourceCourse file bytes files_before files_after before after it
  from_source file bytes it source (w.no_command none same idle) = absurd (not_none none source.command)
  from_source file bytes it source (w.files_failed command may rose idle) = failed rose idle
  from_source file bytes it source (w.not_loaded command same idle) = no_memory same idle
  from_source file bytes it source (w.loaded {file = other} {bytes = loaded_bytes} command loads same follows) =
      let same_file : other ≡ file = some_is (sym command ∙ source.command) in
      let bytes_are : loaded_bytes ≡ bytes = same_bytes source.whole loaded_bytes bytes (files_before.holds other) (ap files_before.holds same_file
      ∙ source.told) loads source.loaded in
      went_on same (subst (λ b. SourceMayAnswer file b before after it) bytes_are
      (subst (λ f. SourceMayAnswer f loaded_bytes before after it) same_file follows))
  from_source file bytes it source (w.loaded_object command loads same executes) = absurd (other_command (sym command ∙ source.command))

  -- REFUSAL

  refused_so : (file bytes : List ℕ) (f : Refusal) (it : Answer) → IsFirst (Breaks bytes) (Some f) → SourceMayAnswer file bytes before after it
      → IsRefused (c it) file bytes f
  refused_so file bytes f it first (w.refused {f = g} other idle) =
      let same : g ≡ f = one_first (Breaks bytes) g f other first in
      record { answer = inl (refl, ap (refusal_message file bytes) same); nothing = made_nothing it refl refl idle }
  refused_so file bytes f it first (w.not_compiled idle) = record { answer = inr (inr refl); nothing = made_nothing it refl refl idle }
  refused_so file bytes f it first (w.executed {tree = tree} made executes) = absurd (made.tree_of_it.sound f first.0)

  refuses : (file bytes : List ℕ) (f : Refusal) (it : Answer) → IsFirst (Breaks bytes) (Some f)
      → SourceCourse file bytes files_before files_after before after it → IsRefused (c it) file bytes f
  refuses file bytes f it first (failed rose idle) = record { answer = inr (inl rose); nothing = made_nothing it refl refl idle }
  refuses file bytes f it first (no_memory same idle) = record { answer = inr (inr refl); nothing = made_nothing it refl refl idle }
  refuses file bytes f it first (went_on same follows) = refused_so file bytes f it first follows

  pub refuses_the_first : (it : Answer) → CallMayAnswer words files_before files_after before after it → RefusesTheFirst (c it)
  refuses_the_first it way file bytes f source first = refuses file bytes f it first (from_source file bytes it source way)

  -- THE OBJECT

  module _ (one_tree : OneTree) where
    pub compiled : (bytes : List ℕ) (tree : Program) (other : Program) (object : Object) → IsTree bytes tree → IsObjectOf bytes other object
        → IsCompiled tree object
    compiled bytes tree other object is made = subst (λ t. IsCompiled t object) (one_tree bytes other tree made.tree_of_it is) made.compiled

    executed_object : (file bytes : List ℕ) (object : Object) (it : Answer) → RunMayAnswer file bytes object before after it → it.object ≡ bytes_of object
    executed_object file bytes object it (w.ended run) = refl
    executed_object file bytes object it (w.ended_without_message run) = refl
    executed_object file bytes object it (w.cut_off cut) = refl

    code_of : (file bytes : List ℕ) (tree : Program) (it : Answer) → IsTree bytes tree → SourceMayAnswer file bytes before after it
        → IsReturned (c it) (IsCode tree)
    code_of file bytes tree it is (w.refused {f = f} first idle) = absurd (is.sound f first.0)
    code_of file bytes tree it is (w.not_compiled idle) = not_returned (IsCode tree) it refl (λ files. refl) idle
    code_of file bytes tree it is (w.executed {tree = other} {object = object} made executes) =
        is_returned (IsCode tree) it (object, executed_object file bytes object it executes, compiled bytes tree other object is made)

    code_from : (file bytes : List ℕ) (tree : Program) (it : Answer) → IsTree bytes tree
        → SourceCourse file bytes files_before files_after before after it → IsReturned (c it) (IsCode tree)
    code_from file bytes tree it is (failed rose idle) = not_returned (IsCode tree) it refl (λ files. absurd (omega (arith, rose, files))) idle
    code_from file bytes tree it is (no_memory same idle) = not_returned (IsCode tree) it refl (λ files. refl) idle
    code_from file bytes tree it is (went_on same follows) = code_of file bytes tree it is follows

    pub returns_the_object : (it : Answer) → CallMayAnswer words files_before files_after before after it → ReturnsTheObject (c it)
    returns_the_object it way file bytes tree source is = code_from file bytes tree it is (from_source file bytes it source way)
