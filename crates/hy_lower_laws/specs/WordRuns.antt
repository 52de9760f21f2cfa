-- Whole runs of `main` through statements on locals of one word and of none.
use Rattle.std.specs.Prelude.{◌≡◌, ℕ, List, Some, None, slice_get}
use Rattle.hy_core.specs.Plain.{Fun, Core}
use Rattle.hy_core.specs.Memory.{lending, no_cells}
use Rattle.hy_core.specs.Control.{GivesUp}
use Rattle.hy_core.specs.Meaning.{Run, lent, setting, state}
use Rattle.hy_core.specs.Ready.{Ready}
use Rattle.hy_object.specs.declared.object.Object.{Object}
use Rattle.hy_object.specs.Runs.{after}
use Rattle.hy_object.specs.States.{nth}
use Rattle.hy_lower.specs.Code.{fun_of}
use Rattle.hy_lower.specs.Frames.{Frame, frame_of}
use Rattle.hy_lower.specs.Examples.{reported}
use Rattle.hy_lower_laws.specs.Following.{Body, IsBody}
use Rattle.hy_lower_laws.specs.WordSteps.{IsWordWork, SameSpans}

-- `main` of a core, with its code
abbrev pub main_body : Core → List ℕ → Fun → (turns : ℕ) → Body
main_body core sizes f n = record { frame = frame_of core.types sizes f; core = f; object = fun_of core.types sizes f; turns = n }

-- until it halts, the run does statements of the forms that are followed
abbrev pub IsWordRun : Run → Frame → Type 0
IsWordRun r b = (k : ℕ) → let c = (state lending no_cells r k).control in c.halt ≡ None → IsWordWork b c.now.work

-- After each number of steps of such a run of a ready core, there is a number of instructions after
-- which the object shows the same: output, end, bytes taken, turns and opened places.
abbrev pub WordRunsAgree : Type 0
WordRunsAgree = (r : Run) → r.stage ≡ GivesUp → Ready r.core → (object : Object) (sizes : List ℕ) (f : Fun) → slice_get r.core.funs 0 ≡ Some f
    → nth object.funs 0 ≡ Some (fun_of r.core.types sizes f) → SameSpans object (setting r) → IsBody (main_body r.core sizes f r.turns)
    → IsWordRun r (frame_of r.core.types sizes f) → (k : ℕ) → (j : ℕ) × (reported r.input (after object r.input r.cut r.turns j) ≡ lent r k)
