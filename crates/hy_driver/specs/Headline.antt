-- The clauses of the top call on `run`.
use Rattle.std.specs.Prelude.{◌≡◌, ◌≢◌, ◌⊎◌, ◌↔◌, ℕ, false, List, [], take, Some}
use Rattle.hy_base.specs.declared.position.Span.{Span}
use Rattle.hy_base.specs.declared.run.TrapKind.{TrapKind}
use Rattle.hy_base.specs.declared.run.End.{End}
use Rattle.hy_base.specs.declared.run.End.TheVariants as end
use Rattle.hy_base.specs.First.{Refusal, IsFirst}
use Rattle.hy_base.specs.Outside.{StillTells}
use Rattle.hy_tree.specs.Tree.{Program}
use Rattle.hy_front.specs.Phases.{IsTree, Breaks}
use Rattle.hy_meaning.specs.Meaning.{mean}
use Rattle.hy_object.specs.declared.object.Object.{Object}
use Rattle.hy_object.specs.Bytes.{bytes_of}
use Rattle.hy_object.specs.Runs.{Run, Runs}
use Rattle.hy_runs.specs.Runs.{Appends, IsTaken}
use Rattle.hy_driver.specs.Call.{Call, IsSource, IsInput, IsQuiet}
use Rattle.hy_driver.specs.Compiled.{IsCompiled}
use Rattle.hy_driver.specs.Outside.{MadeNothing, IsPrevented, InputRose, OutRose}
use Rattle.hy_driver.specs.Texts.{refusal_message, trap_message, spent_message}

-- how many turns a run has
abbrev pub turns : ℕ
turns = 1000000000

-- REFUSAL

-- The source is refused with the first rule that it breaks, at its span, unless the files failed or memory ran out. Whatever
-- came, nothing is made, and nothing is run.
pub record IsRefused (c : Call) (file bytes : List ℕ) (f : Refusal) : Type 0 where
  pub answer : ((c.status ≡ 1) × (c.message ≡ refusal_message file bytes f)) ⊎ IsPrevented c
  pub nothing : MadeNothing c

abbrev pub RefusesTheFirst : Call → Type 0
RefusesTheFirst c = (file bytes : List ℕ) (f : Refusal) → IsSource c file bytes → IsFirst (Breaks bytes) (Some f) → IsRefused c file bytes f

-- THE OBJECT

-- Bytes of which this holds are returned, unless the files failed or memory ran out; then they are none or such. Where the
-- input or the output failed they are returned.
pub record IsReturned (c : Call) (IsIt : List ℕ → Type 0) : Type 0 where
  pub whole : c.files_after.faults ≡ c.files_before.faults → c.status ≢ 8 → IsIt c.object
  pub either : (c.object ≡ []) ⊎ IsIt c.object
  pub cut : InputRose c ⊎ OutRose c → IsIt c.object

-- the bytes are those of an object that does what the tree means
abbrev pub IsCode : Program → List ℕ → Type 0
IsCode tree bytes = (object : Object) × (bytes ≡ bytes_of object) × IsCompiled tree object

abbrev pub ReturnsTheObject : Call → Type 0
ReturnsTheObject c = (file bytes : List ℕ) (tree : Program) → IsSource c file bytes → IsTree bytes tree → IsReturned c (IsCode tree)

-- THIS RUN

abbrev pub status_of : End → ℕ
status_of end.Done = 0
status_of (end.Trap kind span) = 3
status_of end.Spent = 4
status_of end.Asks = 4

abbrev pub end_message : List ℕ → List ℕ → End → List ℕ
end_message file bytes end.Done = []
end_message file bytes (end.Trap kind span) = trap_message file bytes kind span
end_message file bytes end.Spent = spent_message turns
end_message file bytes end.Asks = spent_message turns

-- It writes what the copying meaning writes, and ends as it ends. Its counts are those of the object that is returned.
pub record IsRunOf (c : Call) (file bytes left : List ℕ) (tree : Program) : Type 0 where
  pub object : Object
  pub bytes_are : c.object ≡ bytes_of object
  pub run : Run
  pub runs : Runs object left false turns run
  pub counts : c.counts ≡ run.counts
  pub status : c.status ≡ status_of (mean tree left false turns).end
  pub message : c.message ≡ end_message file bytes (mean tree left false turns).end
  pub output : StillTells c.before.out c.after.out (Appends (mean tree left false turns).output)
  pub taken : StillTells c.before.input c.after.input (IsTaken left (mean tree left false turns).taken)

abbrev pub RunsAsItMeans : Call → Type 0
RunsAsItMeans c = (file bytes left : List ℕ) (tree : Program) → IsSource c file bytes → IsInput c left → IsQuiet c → IsTree bytes tree
    → IsRunOf c file bytes left tree

-- AFTER A FAULT

-- whatever fault came, what was written is the beginning of what the copying meaning writes
abbrev pub WritesABeginning : Call → Type 0
WritesABeginning c = (file bytes left : List ℕ) (tree : Program) → IsSource c file bytes → IsInput c left → IsTree bytes tree
    → (n : ℕ) × StillTells c.before.out c.after.out (Appends (take n (mean tree left false turns).output))

-- CAUSES

-- the run of the source ends in such a way
abbrev pub Means : List ℕ → List ℕ → (End → Type 0) → Type 0
Means bytes left Is = (tree : Program) × IsTree bytes tree × Is (mean tree left false turns).end

abbrev pub IsTrap : End → Type 0
IsTrap e = (kind : TrapKind) × (span : Span) × (e ≡ end.Trap kind span)

abbrev pub AnswersEnd : ℕ → (End → Type 0) → Call → Type 0
AnswersEnd status Is c = (file bytes left : List ℕ) → IsSource c file bytes → IsInput c left → IsQuiet c → ((c.status ≡ status) ↔ Means bytes left Is)

abbrev pub Answers0 : Call → Type 0
Answers0 c = AnswersEnd 0 (λ e. e ≡ end.Done) c

abbrev pub Answers1 : Call → Type 0
Answers1 c = (file bytes : List ℕ) → IsSource c file bytes → IsQuiet c → ((c.status ≡ 1) ↔ ((f : Refusal) × IsFirst (Breaks bytes) (Some f)))

abbrev pub Answers3 : Call → Type 0
Answers3 c = AnswersEnd 3 IsTrap c

abbrev pub Answers4 : Call → Type 0
Answers4 c = AnswersEnd 4 (λ e. e ≡ end.Spent) c
