-- The first of the broken rules that a walk has met.
use Rattle.std.specs.Prelude.{List, Option}
use Rattle.hy_base.specs.First.{Refusal, sooner}
use Rattle.hy_base.specs.Walked as Walked

abbrev pub note : Refusal → Option Refusal → Option Refusal
note refusal first = sooner first refusal

-- after these were met too
abbrev pub after : List Refusal → Option Refusal → Option Refusal
after = Walked.after note
