-- What a pass answers: one word for all passes.
use Rattle.std.specs.Prelude.{Some, None, Result, Ok, Err}
use Rattle.hy_base.specs.declared.refusal.Fault.{Fault}
use Rattle.hy_base.specs.declared.refusal.Fault.TheVariants.{Refused, NoMemory}
use Rattle.hy_base.specs.First.{Refusal, IsFirst}

-- Unless memory runs out, a pass gives a value of which `Gives` holds exactly where none of its rules is broken, and else
-- refuses with the first that is.
abbrev pub Answers : {T : Type 0} → (Refusal → Type 0) → (T → Type 0) → Result T Fault → Type 0
Answers Breaks Gives (Ok value) = IsFirst Breaks None × Gives value
Answers Breaks Gives (Err (Refused rule span)) = IsFirst Breaks (Some (record { rule = rule; span = span }))
Answers Breaks Gives (Err NoMemory) = Unit {0}
