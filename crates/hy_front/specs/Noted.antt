-- The first of the places that a walk has met.
use Rattle.std.specs.Prelude.{List, Option}
use Rattle.hy_base.specs.First.{Refusal, sooner}
use Rattle.hy_base.specs.Walked as Walked
use Rattle.hy_base.specs.declared.position.Span.{Span}
use Rattle.hy_base.specs.declared.refusal.Rule.TheVariants.{X1}

-- a place where a form is not built
abbrev pub unbuilt_at : Span → Refusal
unbuilt_at span = record { rule = X1; span = span }

abbrev pub note : Span → Option Refusal → Option Refusal
note span first = sooner first (unbuilt_at span)

abbrev pub after : List Span → Option Refusal → Option Refusal
after = Walked.after note
