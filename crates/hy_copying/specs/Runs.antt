-- What a run has left and has done, and how it ends.
use Rattle.std.specs.Prelude.{ℕ, Bool, List, Option}
use Rattle.hy_base.specs.declared.run.End.{End}
use Rattle.hy_core.specs.Values.{Val}

-- what a run does that is seen or counted
pub data Event : Type 0 where
  Prints : (piece : List ℕ) → Event
  Reads : Event
  TakesTurn : Event
  Opens : Event

-- the end of a run; or the next event of a run that may do no further one
pub data Halt : Type 0 where
  Ends : End → Halt
  Before : Event → Halt

-- The input left, which is a beginning only where `cut` holds; the output; the turns left; how many places were opened; and how
-- many events may still come, where that is limited.
pub record State : Type 0 where
  pub input : List ℕ
  pub cut : Bool
  pub output : List ℕ
  pub turns : ℕ
  pub opened : ℕ
  pub events : Option ℕ

-- What the slide of a suspended subscript comes to: the values of its parameters at the end, in order, or a halt.
pub data Slid : Type 0 where
  Back : (parameters : List Val) → State → Slid
  Late : Halt → State → Slid

-- What a body comes to: its result, with the values of its parameters at the end; what it yields, with its slide, which goes on
-- from the value that comes back; or a halt.
pub data Came : Type 0 where
  Returned : Val → (parameters : List Val) → State → Came
  Yielded : Val → State → (slide : Val → State → Slid) → Came
  Halted : Halt → State → Came
