-- The type of an expression, if it has one, and whether it is a place.
use Rattle.std.specs.Prelude.{ℕ, ◌&&◌, Bool as Truth, true, false, List, [], ◌∷◌, ◌++◌, Option, Some, None, cond, option_map}
use Rattle.hy_base.specs.declared.position.Span.{Span}
use Rattle.hy_tree.specs.Tree as T
use Rattle.hy_tree.specs.declared.declaration.TypeParam.{TypeParam}
use Rattle.hy_tree.specs.declared.meant.Meant.{Meant}
use Rattle.hy_tree.specs.declared.meant.Meant.TheVariants as meant
use Rattle.hy_types.specs.Types as Y
use Rattle.hy_signatures.specs.PlainTypes.{types}
use Rattle.hy_types.specs.Types.{PlainType}
use Rattle.hy_signatures.specs.Declarations.{Source, written_type, Field, fields_of, field_at}
use Rattle.hy_signatures.specs.Signatures.{Wanted, Exactly}
use Rattle.hy_signatures.specs.Operators.{fits, joined, unary_wanted, only}
use Rattle.hy_check.specs.Postfix.{Value, place, owned, Before, value_of, before_first, none, Seen, seen_step, after_step}

-- what is known around an expression: the source, the type parameters of the function, the type of `self` where there is one,
-- and the types of variables, parameters and new values, by the nodes that declare them
pub record Around : Type 0 where
  pub source : Source
  pub generics : List TypeParam
  pub own : Option PlainType
  pub locals : ℕ → Option PlainType

-- NAMES

abbrev pub field_type : Source → Option PlainType → ℕ → Option PlainType
field_type source None node = None
field_type source (Some own) node = option_map (λ (field : Field). field.type) (field_at node (fields_of source own))

-- variables, parameters and fields of `self` have a type; no other name is a value
abbrev pub name_type : Around → Meant → Option PlainType
name_type around (meant.Local node) = around.locals node
name_type around (meant.SelfField node) = field_type around.source around.own node
name_type around other = None

-- SEVERAL EXPRESSIONS

-- all types, where each is there
abbrev pub all_there : List (Option PlainType) → Option (List PlainType)
all_there [] = Some []
all_there (None ∷ more) = None
all_there (Some type ∷ more) = option_map (λ types. type ∷ types) (all_there more)

abbrev pub all_fit : Wanted → List (Option PlainType) → Truth
all_fit wanted [] = true
all_fit wanted (None ∷ more) = false
all_fit wanted (Some type ∷ more) = fits wanted type && all_fit wanted more

-- the type of the first, where all others have it too
abbrev pub common : List (Option PlainType) → Option PlainType
common [] = None
common (None ∷ more) = None
common (Some type ∷ more) = cond (all_fit (Exactly type) more) (Some type) None

-- the type of the values of an `if`, where all conditions are truth values
abbrev pub chosen : List (Option PlainType) → List (Option PlainType) → Option PlainType
chosen conditions values = cond (all_fit (Exactly Y.Bool) conditions) (common values) None

-- STEPS

-- what a step is, in front of these steps
abbrev pub seen : Around → Before → T.Step → T.Steps → Seen
seen around before step more = seen_step around.source around.generics before step more

-- What stands after a step that is this, whose arguments have these types. `marked` says that `&` stands before the postfix
-- expression; it belongs to the call that is its last step.
abbrev pub after_seen : Around → (marked : Truth) → Before → T.Step → T.Steps → Seen → List (Option PlainType) → Before
after_seen around marked before step more this given =
    after_step around.source around.generics (marked && none more) before step this (all_there given)

-- EXPRESSIONS

abbrev pub owned_type : Option PlainType → Option Value
owned_type type = option_map owned type

abbrev pub place_type : Option PlainType → Option Value
place_type type = option_map place type

abbrev pub type_in : Option Value → Option PlainType
type_in value = option_map (λ (value : Value). value.type) value

abbrev mutual
  -- the value that an expression is, where it has a type; `marked` says that `&` stands right before it
  pub valued : Around → (marked : Truth) → T.Expr → Option Value
  valued around marked (T.Chain first links at) = owned_type (chained around (type_in (valued around false first)) links)
  valued around marked (T.Unary operator operand at) = owned_type (only (unary_wanted operator) (type_in (valued around false operand)))
  valued around marked (T.Marked operand at) = valued around true operand
  valued around marked (T.Postfix primary steps at) =
      value_of (stepped around marked (before_first around.source primary steps (valued around false primary)) steps)
  valued around marked (T.Number number at) = Some (owned Y.Int)
  valued around marked (T.Truth truth at) = Some (owned Y.Bool)
  valued around marked (T.Named name at) = place_type (name_type around (around.source.meant at.node))
  valued around marked (T.SelfValue token at) = place_type around.own
  valued around marked (T.EmptyArray element at) = Some (owned (Y.Array (written_type around.source element)))
  valued around marked (T.Tuple parts at) = owned_type (option_map (λ ts. Y.Tuple (types ts)) (all_there (expr_types around parts)))
  valued around marked (T.Array elements at) = owned_type (option_map Y.Array (common (expr_types around elements)))
  valued around marked (T.IfElse choices otherwise at) =
      owned_type (chosen (condition_types around choices) (choice_types around choices ++ type_in (valued around false otherwise) ∷ []))

  -- the types of expressions
  pub expr_types : Around → T.Exprs → List (Option PlainType)
  expr_types around T.NoExpr = []
  expr_types around (T.ThenExpr e more) = type_in (valued around false e) ∷ expr_types around more

  -- the type of a chain of operators after a left operand of this type
  pub chained : Around → Option PlainType → T.Links → Option PlainType
  chained around left T.NoLink = left
  chained around left (T.ThenLink operator token operand at more) = chained around (joined operator left (type_in (valued around false operand))) more

  -- what stands after these steps
  pub stepped : Around → (marked : Truth) → Before → T.Steps → Before
  stepped around marked before T.NoStep = before
  stepped around marked before (T.ThenStep step more) =
      stepped around marked (after_seen around marked before step more (seen around before step more) (step_types around step)) more

  -- the types of the arguments of a step
  pub step_types : Around → T.Step → List (Option PlainType)
  step_types around (T.MemberStep name at) = []
  step_types around (T.PartStep number at) = []
  step_types around (T.CallStep args at) = arg_types around args
  step_types around (T.IndexStep args at) = arg_types around args

  pub arg_types : Around → T.Args → List (Option PlainType)
  arg_types around T.NoArg = []
  arg_types around (T.ThenArg label value more) = type_in (valued around false value) ∷ arg_types around more

  -- the types of the conditions and of the values of an `if`
  pub condition_types : Around → T.Choices → List (Option PlainType)
  condition_types around T.NoChoice = []
  condition_types around (T.ThenChoice token condition value more) = type_in (valued around false condition) ∷ condition_types around more

  pub choice_types : Around → T.Choices → List (Option PlainType)
  choice_types around T.NoChoice = []
  choice_types around (T.ThenChoice token condition value more) = type_in (valued around false value) ∷ choice_types around more

abbrev pub typed : Around → T.Expr → Option PlainType
typed around e = type_in (valued around false e)

-- whether the expression is a place: a variable, parameter, bound projection or `self`, or a postfix expression whose last step
-- is a field, a part, an element or a call of a subscript
abbrev pub is_place_value : Option Value → Truth
is_place_value (Some value) = value.is_place
is_place_value None = false

abbrev pub is_place : Around → T.Expr → Truth
is_place around e = is_place_value (valued around false e)

-- the span of an expression in a refusal: a place leaves its `&` out
abbrev pub shown : Around → T.Expr → Span
shown around (T.Marked operand at) = cond (is_place around (T.Marked operand at)) (T.at_expr operand).span at.span
shown around e = (T.at_expr e).span

-- what stands after a step, in front of these steps
abbrev pub after : Around → (marked : Truth) → Before → T.Step → T.Steps → Before
after around marked before step more = after_seen around marked before step more (seen around before step more) (step_types around step)

-- what stands before the first step of a postfix expression
abbrev pub begins : Around → T.Expr → T.Steps → Before
begins around primary steps = before_first around.source primary steps (valued around false primary)
