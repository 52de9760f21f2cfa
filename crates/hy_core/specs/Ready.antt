-- What a core must be for its two meanings to be equal, and what is proved of such cores.
use Rattle.std.specs.Prelude.{◌≡◌, true}
use Rattle.hy_core.specs.Plain.{Core}
use Rattle.hy_core.specs.Control.{Stuck, Stage, GivesUp}
use Rattle.hy_core.specs.Meaning.{Report, Run, CopiesTo, LendsTo, NeverHalts, IsCalmRun}
use Rattle.hy_core.specs.Dropped.{IsDroppedRun}
use Rattle.hy_core.specs.Shaped.{Shaped}
use Rattle.hy_core.specs.Flow.{HasFlow}
use Rattle.hy_core.specs.FlowOf.{has_flow}

-- A checked core is ready to be lowered. That it is calm and drops all follows.
pub record Ready (core : Core) : Type 0 where
  pub shaped : Shaped core
  pub flow : HasFlow GivesUp core

-- What is computed is a flow.
abbrev pub ComputedIsFlow : Type 0
ComputedIsFlow = (stage : Stage) (core : Core) → has_flow stage core ≡ true → HasFlow stage core

-- A core that has a flow is calm, whatever it is given: a checked one, and one whose `Drop` deinitialises.
abbrev pub FlowIsCalm : Type 0
FlowIsCalm = (r : Run) → Shaped r.core → HasFlow r.stage r.core → IsCalmRun r

-- The two meanings of a core that has a flow are equal.
abbrev pub FlowAgrees : Type 0
FlowAgrees = (r : Run) → Shaped r.core → HasFlow r.stage r.core → (report : Report) → (CopiesTo r report → LendsTo r report)
    × (LendsTo r report → CopiesTo r report)

-- A core that has a flow has given up what it owns by the end of each body: a checked one all that is set, one whose `Drop`
-- deinitialises each array. It gives up no array with an element that holds an array.
abbrev pub FlowIsDropped : Type 0
FlowIsDropped = (r : Run) → Shaped r.core → HasFlow r.stage r.core → IsDroppedRun r

-- A core of the right shape never gets stuck.
abbrev pub ShapedIsNeverStuck : Type 0
ShapedIsNeverStuck = (r : Run) → Shaped r.core → NeverHalts r Stuck

-- READY CORES: the same of checked cores

-- The two meanings of a ready core are equal.
abbrev pub ReadyCoresAgree : Type 0
ReadyCoresAgree = (r : Run) → r.stage ≡ GivesUp → Ready r.core → (report : Report) → (CopiesTo r report → LendsTo r report)
    × (LendsTo r report → CopiesTo r report)

-- Every run of a ready core is calm.
abbrev pub ReadyCoresAreCalm : Type 0
ReadyCoresAreCalm = (r : Run) → r.stage ≡ GivesUp → Ready r.core → IsCalmRun r

-- A ready core gives up all that it owns.
abbrev pub ReadyCoresDropAll : Type 0
ReadyCoresDropAll = (r : Run) → r.stage ≡ GivesUp → Ready r.core → IsDroppedRun r
