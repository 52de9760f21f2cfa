-- What expressions do. The value parts of an expression are evaluated from left to right; what is left is an owned result, or a place
-- that is still to be opened. How the expression is used says what becomes of that: it is read, lent, moved or filled.
use Rattle.std.specs.Prelude.{ℕ, ℤ, pos, negsuc, true, false, List, [], ◌∷◌, Option, Some, None}
use Rattle.hy_base.specs.declared.numbers.IntegerType.TheVariants as integer
use Rattle.hy_base.specs.declared.position.Span.{Span}
use Rattle.hy_tree.specs.Tree as T
use Rattle.hy_tree.specs.declared.meant.Meant.{Meant}
use Rattle.hy_tree.specs.declared.meant.Meant.TheVariants as meant
use Rattle.hy_tree.specs.declared.operator.Mode.{Mode}
use Rattle.hy_tree.specs.declared.operator.Mode.TheVariants as mode
use Rattle.hy_tree.specs.declared.operator.Operator.{Operator}
use Rattle.hy_tree.specs.declared.operator.Operator.TheVariants as operator
use Rattle.hy_tree.specs.declared.operator.UnaryOperator.{UnaryOperator}
use Rattle.hy_types.specs.Types.{PlainType}
use Rattle.hy_signatures.specs.Declarations.{fields_of}
use Rattle.hy_signatures.specs.Signatures as S
use Rattle.hy_signatures.specs.Signatures.{Callee}
use Rattle.hy_check.specs.Phrases.{first_use, rest_uses}
use Rattle.hy_check.specs.Uses as U
use Rattle.hy_check.specs.Uses.{Use, Sig}
use Rattle.hy_core.specs.Values.{Val, Unset, Number, Truth, Tuple, Product, Array, Vals, No, And}
use Rattle.hy_copying.specs.Kinds.{is_true, integer_in}
use Rattle.hy_copying.specs.Known.{Known, type_at, place_named, place_of_field, is_subscript}
use Rattle.hy_copying.specs.Places.{Local, Itself, Temporary, Located, Rooted, PartIn, ElementIn, YieldedIn, Arguments, NoArgument, Moved, Lent}
use Rattle.hy_copying.specs.Places.{Owned}
use Rattle.hy_copying.specs.Does.{Does, ◌>>=◌, ◌>>◌, give, impossible, when, changes}
use Rattle.hy_copying.specs.Lives.{Later, first, rest, as_statement}
use Rattle.hy_copying.specs.Opening.{Worked, with_open, calls, gives_only, reads, moves}
use Rattle.hy_copying.specs.Operations.{operates, operates_alone, converts, works, built, span_or}

-- what is left of an expression once its value parts are evaluated
pub data Ready : Type 0 where
  Is : Located → Ready
  Has : Val → Ready
  -- a call of a `set` variant, which waits for the new value
  Awaits : Sig → Arguments → Ready

-- BY USE

-- an owned result that is read or lent is a temporary
abbrev pub becomes_temporary : Known → (node : ℕ) → Val → Does Located
becomes_temporary known node v = do
  changes (λ env. record env { temporaries = record { root = Temporary node; type = type_at known node; value = v; standing = Owned } ∷ env.temporaries })
  give (Rooted (Temporary node))

-- the place that is read or lent
abbrev pub placed : Later → (node : ℕ) → Ready → Does Located
placed later node (Is place) = give place
placed later node (Has v) = becomes_temporary later.known node v
placed later node (Awaits sig arguments) = impossible

-- its value is read
abbrev pub looked_at : Later → (node : ℕ) → Ready → Does Val
looked_at later node ready = do
  place ← placed later node ready
  reads later place

-- its value is moved
abbrev pub takes : Later → Ready → Does Val
takes later (Is place) = moves later place
takes later (Has v) = give v
takes later (Awaits sig arguments) = impossible

abbrev pub takes_argument : Later → Ready → Does (Arguments → Arguments)
takes_argument later ready = do
  v ← takes later ready
  give (λ more. Moved v more)

abbrev pub lends_argument : Later → Use → (node : ℕ) → Ready → Does (Arguments → Arguments)
lends_argument later used node ready = do
  place ← placed later node ready
  give (λ more. Lent used place more)

-- an argument or a receiver, in front of further arguments
abbrev pub passes : Later → Use → (node : ℕ) → Ready → Does (Arguments → Arguments)
passes later U.Sink node ready = takes_argument later ready
passes later U.Read node ready = lends_argument later U.Read node ready
passes later U.Let node ready = lends_argument later U.Let node ready
passes later U.Inout node ready = lends_argument later U.Inout node ready
passes later U.Set node ready = lends_argument later U.Set node ready
passes later U.Assigned node ready = lends_argument later U.Assigned node ready
passes later U.Compound node ready = lends_argument later U.Compound node ready

-- NAMES AND STEPS

-- a variable, a field of `self`; a name that is called has no value
abbrev pub named : Known → Meant → Ready
named known (meant.Local node) = Is (Rooted (Local node))
named known (meant.SelfField node) = Is (PartIn (Rooted Itself) (place_of_field known.source node))
named known meaning = Has Unset

abbrev pub part_or : Later → (node : ℕ) → Ready → Option ℕ → Does Ready
part_or later node before None = give before
part_or later node before (Some k) = do
  whole ← placed later node before
  give (Is (PartIn whole k))

abbrev pub number_of : ℤ → Option ℕ
number_of (pos k) = Some k
number_of (negsuc k) = None

-- The field of what stands before, whose node is given. The name of a method or subscript is no field, and its arguments follow.
abbrev pub steps_to_field : Later → (node : ℕ) → Ready → List ℕ → Does Ready
steps_to_field later node before name = part_or later node before (place_named name (fields_of later.known.source (type_at later.known node)))

-- CALLS

abbrev pub receives : Later → Option Use → (node : ℕ) → Ready → Does (Arguments → Arguments)
receives later None node before = give (λ arguments. arguments)
receives later (Some used) node before = passes later used node before

abbrev pub moved_in : Arguments → Vals
moved_in NoArgument = No
moved_in (Moved v more) = And v (moved_in more)
moved_in (Lent used place more) = moved_in more

-- an index that is a place is read now
abbrev pub indexes : Later → Span → Located → Arguments → Does Ready
indexes later span array NoArgument = impossible
indexes later span array (Moved v more) = impossible
indexes later span array (Lent used index more) = do
  v ← reads later index
  give (Is (ElementIn array (integer_in v) span))

abbrev pub element : Later → Span → Arguments → Does Ready
element later span NoArgument = impossible
element later span (Moved v more) = impossible
element later span (Lent used array more) = indexes later span array more

abbrev pub results : Does Val → Does Ready
results does = do
  v ← does
  give (Has v)

-- What yields is opened later; a `set` variant waits for the new value; all else runs now.
abbrev pub subscripted : Later → Sig → PlainType → Arguments → Mode → Does Ready
subscripted later sig type arguments mode.Let = give (Is (YieldedIn sig type arguments))
subscripted later sig type arguments mode.Inout = give (Is (YieldedIn sig type arguments))
subscripted later sig type arguments mode.Set = give (Awaits sig arguments)
subscripted later sig type arguments mode.Sink = results (calls later sig arguments)
subscripted later sig type arguments mode.Yielded = impossible

abbrev pub converted : PlainType → Span → List Val → Does Worked
converted to span values = do
  v ← converts to span (first values)
  gives_only v values

abbrev pub invokes : Later → Sig → T.At → List Span → Arguments → Callee → Does Ready
invokes later sig at spans arguments (S.Declared node) =
    when (is_subscript later.known.source node) (subscripted later sig (type_at later.known at.node) arguments sig.variant)
    (results (calls later sig arguments))
invokes later sig at spans arguments (S.Required requirement place) = results (calls later sig arguments)
invokes later sig at spans arguments (S.Predeclared number) = results (with_open later false arguments (works later (built number) at.span spans))
invokes later sig at spans arguments (S.Initialiser product) = give (Has (Product product (moved_in arguments)))
invokes later sig at spans arguments (S.Conversion to) = results (with_open later false arguments (converted to at.span))
invokes later sig at spans arguments S.Element = element later (span_or spans at.span) arguments

-- a call at a step, on what stands before it, with its arguments in parentheses or brackets
abbrev pub applies : Later → T.At → (node : ℕ) → (before : Ready) → Option Sig → (List Use → Does Arguments) → List Span → Does Ready
applies later at node before None arguments spans = impossible
applies later at node before (Some sig) arguments spans = do
  on ← receives later sig.receiver node before
  given ← arguments sig.arguments
  invokes later sig at spans (on given) sig.callee

abbrev pub no_arguments : List Use → Does Arguments
no_arguments uses = give NoArgument

-- a member is the count of an array, which is called, or a field, or the name of the call that follows
abbrev pub steps_to_member : Later → T.At → (node : ℕ) → Ready → List ℕ → Option Sig → Does Ready
steps_to_member later at node before name None = steps_to_field later node before name
steps_to_member later at node before name (Some sig) = applies later at node before (Some sig) no_arguments []

abbrev pub spans_of : T.Args → List Span
spans_of T.NoArg = []
spans_of (T.ThenArg label value more) = (T.at_expr value).span ∷ spans_of more

-- OPERATORS

abbrev pub of_two : Operator → Span → List Val → Does Worked
of_two o span values = do
  v ← operates o span (first values) (first (rest values))
  gives_only v values

abbrev pub both : Later → Operator → Span → Located → Located → Does Val
both later o span left right = with_open later false (Lent U.Read left (Lent U.Read right NoArgument)) (of_two o span)

abbrev pub of_one : UnaryOperator → Span → List Val → Does Worked
of_one o span values = do
  v ← operates_alone o span (first values)
  gives_only v values

abbrev pub alone : Later → UnaryOperator → Span → Located → Does Val
alone later o span operand = with_open later false (Lent U.Read operand NoArgument) (of_one o span)

-- the value parts of both operands, and then their places
abbrev pub operands : Later → Operator → Span → (left_node : ℕ) → Ready → (right_node : ℕ) → Does Ready → Does Val
operands later o span left_node left right_node right = do
  first_place ← placed later left_node left
  of ← right
  second_place ← placed later right_node of
  both later o span first_place second_place

-- `&&` and `||` read the left side, and the right side only where that decides nothing. The right side is a statement of its own.
abbrev pub right_side : Later → (node : ℕ) → Does Ready → Does Val
right_side later node right =
    as_statement later
    (do
      ready ← right
      looked_at later node ready)

abbrev pub joins : Later → Operator → Span → (left_node : ℕ) → Ready → (right_node : ℕ) → Does Ready → Does Val
joins later operator.And span left_node left right_node right = do
  v ← looked_at later left_node left
  when (is_true v) (right_side later right_node right) (give (Truth false))
joins later operator.Or span left_node left right_node right = do
  v ← looked_at later left_node left
  when (is_true v) (give (Truth true)) (right_side later right_node right)
joins later o span left_node left right_node right = operands later o span left_node left right_node right

-- EXPRESSIONS

abbrev pub node_if : Option PlainType → (step before : ℕ) → ℕ
node_if None step before = before
node_if (Some type) step before = step

-- the node of what stands after a step: the name of a call that follows is nothing by itself
abbrev pub node_after : Known → (before : ℕ) → T.Step → ℕ
node_after known before step = node_if (known.type (T.at_step step).node) (T.at_step step).node before

-- the node of an expression
abbrev pub node_of : T.Expr → ℕ
node_of e = (T.at_expr e).node

abbrev mutual
  -- the value parts of an expression
  pub ready : Later → T.Expr → Does Ready
  ready later (T.Chain first links at) = do
    left ← ready later first
    links_on later (node_of first) left links
  ready later (T.Unary o operand at) = do
    of ← ready later operand
    place ← placed later (node_of operand) of
    results (alone later o at.span place)
  ready later (T.Marked operand at) = ready later operand
  ready later (T.Postfix primary steps at) = do
    before ← ready later primary
    steps_on later (node_of primary) before steps
  ready later (T.Number number at) = give (Has (Number integer.Int number))
  ready later (T.Truth truth at) = give (Has (Truth truth))
  ready later (T.Named name at) = give (named later.known (later.known.source.meant at.node))
  ready later (T.SelfValue token at) = give (Is (Rooted Itself))
  ready later (T.EmptyArray written at) = give (Has (Array No))
  ready later (T.Tuple parts at) = do
    vs ← all_taken later parts
    give (Has (Tuple vs))
  ready later (T.Array elements at) = do
    vs ← all_taken later elements
    give (Has (Array vs))
  ready later (T.IfElse choices otherwise at) =
      results (chooses later choices
      (do
        of ← ready later otherwise
        takes later of))

  -- parts of a tuple, or elements of an array
  pub all_taken : Later → T.Exprs → Does Vals
  all_taken later T.NoExpr = give No
  all_taken later (T.ThenExpr e more) = do
    of ← ready later e
    v ← takes later of
    vs ← all_taken later more
    give (And v vs)

  -- a chain of operators, with the left operand of the first, whose node is given
  pub links_on : Later → (node : ℕ) → Ready → T.Links → Does Ready
  links_on later node left T.NoLink = give left
  links_on later node left (T.ThenLink o token operand at more) = do
    v ← joins later o at.span node left (node_of operand) (ready later operand)
    links_on later at.node (Has v) more

  -- further steps, after what stands before them, whose node is given
  pub steps_on : Later → (node : ℕ) → Ready → T.Steps → Does Ready
  steps_on later node before T.NoStep = give before
  steps_on later node before (T.ThenStep step more) = do
    next ← step_on later node before step
    steps_on later (node_after later.known node step) next more

  pub step_on : Later → (node : ℕ) → Ready → T.Step → Does Ready
  step_on later node before (T.MemberStep name at) = steps_to_member later at node before name.text (later.known.call at.node)
  step_on later node before (T.PartStep number at) = part_or later node before (number_of number)
  step_on later node before (T.CallStep args at) = applies later at node before (later.known.call at.node) (passed later args) (spans_of args)
  step_on later node before (T.IndexStep args at) = applies later at node before (later.known.call at.node) (passed later args) (spans_of args)

  -- arguments that are used so
  pub passed : Later → T.Args → List Use → Does Arguments
  passed later T.NoArg uses = give NoArgument
  passed later (T.ThenArg label value more) uses = do
    of ← ready later value
    one ← passes later (first_use uses) (node_of value) of
    others ← passed later more (rest_uses uses)
    give (one others)

  -- the value of the first `if` whose condition is true; conditions and values are statements of their own
  pub chooses : Later → T.Choices → (otherwise : Does Val) → Does Val
  chooses later T.NoChoice otherwise = as_statement later otherwise
  chooses later (T.ThenChoice token condition value more) otherwise = do
    holds ← as_statement later
        (do
          of ← ready later condition
          looked_at later (node_of condition) of)
    when (is_true holds)
        (as_statement later
        (do
          of ← ready later value
          takes later of))
        (chooses later more otherwise)
