-- Wanted types, and what operators want and give.
use Rattle.std.specs.Prelude.{◌&&◌, Bool as Truth, Option, Some, None, cond}
use Rattle.hy_tree.specs.declared.operator.Operator.{Operator}
use Rattle.hy_tree.specs.declared.operator.Operator.TheVariants as operator
use Rattle.hy_tree.specs.declared.operator.UnaryOperator.{UnaryOperator}
use Rattle.hy_tree.specs.declared.operator.UnaryOperator.TheVariants as unary
use Rattle.hy_types.specs.Types as Y
use Rattle.hy_types.specs.Types.{PlainType}
use Rattle.hy_signatures.specs.PlainTypes.{same_type, nothing_found}
use Rattle.hy_signatures.specs.Signatures.{Wanted, Exactly, AnInteger, ASigned, AnIntegerOrBool, fitted, is_found}

-- whether a type is the wanted one; there are no parameters to be found
abbrev pub fits : Wanted → PlainType → Truth
fits (Exactly type) given = same_type type given
fits wanted given = is_found (fitted wanted given nothing_found)

-- OPERATORS

abbrev pub left_wanted : Operator → Wanted
left_wanted operator.Or = Exactly Y.Bool
left_wanted operator.And = Exactly Y.Bool
left_wanted operator.Equal = AnIntegerOrBool
left_wanted operator.NotEqual = AnIntegerOrBool
left_wanted operator.Less = AnInteger
left_wanted operator.LessEqual = AnInteger
left_wanted operator.Greater = AnInteger
left_wanted operator.GreaterEqual = AnInteger
left_wanted (operator.Arithmetic a) = AnInteger

abbrev pub operated : Operator → PlainType → PlainType
operated (operator.Arithmetic a) left = left
operated operator left = Y.Bool

-- the right operand is wanted to have the type of the left one
abbrev pub joined : Operator → Option PlainType → Option PlainType → Option PlainType
joined operator (Some left) (Some right) = cond (fits (left_wanted operator) left && same_type left right) (Some (operated operator left)) None
joined operator left right = None

abbrev pub unary_wanted : UnaryOperator → Wanted
unary_wanted unary.Negate = ASigned
unary_wanted unary.Not = Exactly Y.Bool

-- the type, where it is a wanted one
abbrev pub only : Wanted → Option PlainType → Option PlainType
only wanted (Some type) = cond (fits wanted type) (Some type) None
only wanted None = None
