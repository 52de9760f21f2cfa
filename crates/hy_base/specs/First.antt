-- The first of all broken rules.
use Rattle.std.specs.Prelude.{◌≡◌, ◌<◌, ◌⊎◌, Option, Some, None, Bool, ◌||◌, ◌&&◌, cond, nat_lt, nat_eq}
use Rattle.hy_base.specs.declared.first.BrokenRule.{BrokenRule}
use Rattle.hy_base.specs.Rules.{place_of}

-- a rule that is broken, and where
abbrev pub Refusal : Type 0
Refusal = BrokenRule

-- one comes before another: by the least end, then the greatest start, then the least place in the table
abbrev pub Precedes : Refusal → Refusal → Type 0
Precedes f g = (f.span.to < g.span.to)
    ⊎ ((f.span.to ≡ g.span.to) × ((g.span.from < f.span.from) ⊎ ((f.span.from ≡ g.span.from) × (place_of f.rule < place_of g.rule))))

-- the first of all that are broken, or none where none is
abbrev pub IsFirst : (Refusal → Type 0) → Option Refusal → Type 0
IsFirst Breaks None = (f : Refusal) → Breaks f → ⊥
IsFirst Breaks (Some f) = Breaks f × ((g : Refusal) → Breaks g → Precedes g f → ⊥)

-- THE SAME, COMPUTED

abbrev pub precedes : Refusal → Refusal → Bool
precedes f g =
    nat_lt f.span.to g.span.to ||
    (nat_eq f.span.to g.span.to && (nat_lt g.span.from f.span.from || (nat_eq f.span.from g.span.from && nat_lt (place_of f.rule) (place_of g.rule))))

-- the first of what was met so far, of which the first is given, and of one more
abbrev pub sooner : Option Refusal → Refusal → Option Refusal
sooner None f = Some f
sooner (Some g) f = Some (cond (precedes f g) f g)
