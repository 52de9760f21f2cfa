-- Operators between operands as the code has them.
use Rattle.std.specs.Prelude.{Option, Some, None}
use Rattle.hy_phrases.specs.declared.operators.Infix.{Infix}
use Rattle.hy_phrases.specs.declared.operators.Level.{Level}
use Rattle.hy_phrases.specs.declared.operators.Level.TheVariants as l
use Rattle.hy_grammar.specs.Kinds as kind

abbrev pub level_of : Level → kind.Level
level_of l.Disjunction = kind.Disjunction
level_of l.Conjunction = kind.Conjunction
level_of l.Comparison = kind.Comparison
level_of l.Addition = kind.Addition
level_of l.Multiplication = kind.Multiplication

abbrev pub infix_at : Option Infix → Option kind.Infix
infix_at None = None
infix_at (Some found) = kind.tier (level_of found.level) found.operator
