-- The facts of `Within` for operations and expressions.
use Rattle.std.proofs.Common.{refl, sym, append-nil}
use Rattle.std.specs.Prelude.{ℕ, Bool, false, List, [], ◌∷◌, Option, Some, None, Result, Ok, Err}
use Rattle.hy_base.specs.Lines as L
use Rattle.hy_base.specs.Lines.{Got, read_line}
use Rattle.hy_base.specs.declared.position.Span.{Span}
use Rattle.hy_base.specs.declared.run.TrapKind.{TrapKind}
use Rattle.hy_tree.specs.Tree as T
use Rattle.hy_tree.specs.declared.operator.Arithmetic.{Arithmetic}
use Rattle.hy_tree.specs.declared.operator.Mode.{Mode}
use Rattle.hy_tree.specs.declared.operator.Mode.TheVariants as mode
use Rattle.hy_tree.specs.declared.operator.Operator.{Operator}
use Rattle.hy_tree.specs.declared.operator.Operator.TheVariants as operator
use Rattle.hy_tree.specs.declared.operator.UnaryOperator.{UnaryOperator}
use Rattle.hy_tree.specs.declared.operator.UnaryOperator.TheVariants as unary
use Rattle.hy_types.specs.Types as Y
use Rattle.hy_types.specs.Types.{PlainType}
use Rattle.hy_signatures.specs.Signatures as S
use Rattle.hy_signatures.specs.Signatures.{Callee}
use Rattle.hy_check.specs.Uses as U
use Rattle.hy_check.specs.Uses.{Use, Sig}
use Rattle.hy_core.specs.Values.{Val, Vals, No, And}
use Rattle.hy_copying.specs.Known.{Known, type_at}
use Rattle.hy_copying.specs.Runs.{State}
use Rattle.hy_copying.specs.Places.{Located, Arguments, NoArgument, Moved, Lent, Rooted, Temporary, Owned, Env}
use Rattle.hy_copying.specs.Does
use Rattle.hy_copying.specs.Does.{Outcome, Does, Acts, and_then}
use Rattle.hy_copying.specs.Kinds.{is_true}
use Rattle.hy_copying.specs.Lives.{Later, first}
use Rattle.hy_copying.specs.Operations
use Rattle.hy_copying.specs.Operations.{Built, works}
use Rattle.hy_copying.specs.Expressions
use Rattle.hy_copying.specs.Expressions.{Ready, Is, Has, Awaits, ready, placed, looked_at, takes, passes}
use Rattle.hy_copying.proofs.Within.{thus, itself, free, Comes, stays, EnvWithin, OutWithin, Within, Any, seq, less, gives, LaterWithin, later_less}
use Rattle.hy_copying.proofs.LivesWithin.{trapped, never, chosen, changed_within, happens_within, statement_within, visits_within}
use Rattle.hy_copying.proofs.OpeningWithin.{with_within, calls_within, reads_within, moves_within}

pub given : {A : Type 0} {d : ℕ} (a : A) → Within Any d (λ env s. Does.Gives a env s)
given a = gives a (λ b le. tt)

-- OPERATIONS

calculated_within : {d : ℕ} (span : Span) (r : Option (Result Val TrapKind)) → Within Any d (Operations.calculated span r)
calculated_within span None = never
calculated_within span (Some (Ok v)) = given v
calculated_within span (Some (Err kind)) = trapped kind span

decided_within : {d : ℕ} (r : Option Bool) → Within Any d (Operations.decided r)
decided_within None = never
decided_within (Some b) = given _

pub computes_within : {d : ℕ} (a : Arithmetic) (span : Span) (v w : Val) → Within Any d (Operations.computes a span v w)
computes_within a span v w = calculated_within span _

operates_within : {d : ℕ} (o : Operator) (span : Span) (v w : Val) → Within Any d (Operations.operates o span v w)
operates_within operator.Or span v w = never
operates_within operator.And span v w = never
operates_within operator.Equal span v w = decided_within _
operates_within operator.NotEqual span v w = decided_within _
operates_within operator.Less span v w = decided_within _
operates_within operator.LessEqual span v w = decided_within _
operates_within operator.Greater span v w = decided_within _
operates_within operator.GreaterEqual span v w = decided_within _
operates_within (operator.Arithmetic a) span v w = calculated_within span _

alone_within : {d : ℕ} (o : UnaryOperator) (span : Span) (v : Val) → Within Any d (Operations.operates_alone o span v)
alone_within unary.Negate span v = calculated_within span _
alone_within unary.Not span v = given _

converts_within : {d : ℕ} (to : PlainType) (span : Span) (v : Val) → Within Any d (Operations.converts to span v)
converts_within Y.Int span v = calculated_within span _
converts_within (Y.Sized num) span v = calculated_within span _
converts_within Y.Bool span v = never
converts_within (Y.Tuple parts) span v = never
converts_within (Y.Product product) span v = never
converts_within (Y.Array element) span v = never
converts_within (Y.Param place) span v = never

writes_within : {d : ℕ} (piece : List ℕ) → Within Any d (Operations.writes piece)
writes_within piece = record {
  holds = λ env s le good.
      (record { more = piece; output = refl; turns = itself s.turns; opened = itself s.opened }, good, tt, refl);
}

prints_within : {d : ℕ} (line : Option (List ℕ)) → Within Any d (Operations.prints_line line)
prints_within None = never
prints_within (Some piece) = seq (happens_within _) (λ c a le q. writes_within piece)

input_left : (left : List ℕ) (s : State) → Comes s (Operations.with_input left s)
input_left left s = record { more = []; output = sym (append-nil s.output); turns = itself s.turns; opened = itself s.opened }

got_within : (got : Got) (span : Span) (env : Env) (s : State) → EnvWithin s.turns env
    → OutWithin Any s (Operations.got got span env s) (Operations.got got span env (free s))
got_within (L.Gives n left) span env s good = (input_left left s, good, tt, refl)
got_within (L.Fails left) span env s good = (tt, input_left left s, refl)
got_within L.Wants span env s good = (tt, stays s, refl)

line_within : {d : ℕ} (span : Span) → Within Any d (Operations.takes_line span)
line_within span = record { holds = λ env s le good. got_within (read_line s.cut s.input) span env s good }

removes_within : {d : ℕ} (span : Span) (vs : Vals) → Within Any d (Operations.removes_last span vs)
removes_within span No = trapped _ span
removes_within span (And v vs) = given _

swaps_within : {d : ℕ} (one two : Span) (i j : Option ℕ) (vs : Vals) (indices : List Val) → Within Any d (Operations.swaps one two i j vs indices)
swaps_within one two None j vs indices = trapped _ one
swaps_within one two (Some i) None vs indices = trapped _ two
swaps_within one two (Some i) (Some j) vs indices = given _

works_within : {d : ℕ} {later : Later} (built : Built) (span : Span) (spans : List Span) (values : List Val) → LaterWithin d later
    → Within Any d (works later built span spans values)
works_within Operations.Print span spans values l = seq (prints_within _) (λ c a le q. given _)
works_within Operations.Read span spans values l = seq (seq (happens_within _) (λ c a le q. line_within span)) (λ c a le q. given _)
works_within Operations.Precondition span spans values l =
    seq (chosen (is_true (first values)) (given _) (trapped _ span)) (λ c a le q. given _)
works_within Operations.Count span spans values l = given _
works_within Operations.Append span spans values l = given _
works_within Operations.RemoveLast span spans values l = removes_within span _
works_within Operations.SwapAt span spans values l = swaps_within _ _ _ _ _ _
works_within Operations.Copy span spans values l = seq (visits_within _ (first values) l) (λ c a le q. given _)

-- BY USE

temporary_within : {d : ℕ} (known : Known) (node : ℕ) (v : Val) → Within Any d (Expressions.becomes_temporary known node v)
temporary_within known node v =
    seq (changed_within (λ env. record env {
      temporaries = record {
        root = Temporary node;
        type = type_at known node;
        value = v;
        standing =
            Owned;
      } ∷ env.temporaries;
    })
    (λ b env le good. record { locals = good.locals; temporaries = (tt, good.temporaries) })) (λ c a le q. given (Rooted (Temporary node)))

pub placed_within : {d : ℕ} {later : Later} (node : ℕ) (of : Ready) → LaterWithin d later → Within Any d (placed later node of)
placed_within node (Is place) l = given place
placed_within {later = later} node (Has v) l = temporary_within later.known node v
placed_within node (Awaits sig arguments) l = never

pub looked_within : {d : ℕ} {later : Later} (node : ℕ) (of : Ready) → LaterWithin d later → Within Any d (looked_at later node of)
looked_within node of l = seq (placed_within node of l) (λ c place le q. reads_within place (later_less le l))

pub takes_within : {d : ℕ} {later : Later} (of : Ready) → LaterWithin d later → Within Any d (takes later of)
takes_within (Is place) l = moves_within place l
takes_within (Has v) l = given v
takes_within (Awaits sig arguments) l = never

taken_within : {d : ℕ} {later : Later} (of : Ready) → LaterWithin d later → Within Any d (Expressions.takes_argument later of)
taken_within of l = seq (takes_within of l) (λ c v le q. given _)

lent_within : {d : ℕ} {later : Later} (used : Use) (node : ℕ) (of : Ready) → LaterWithin d later → Within Any d (Expressions.lends_argument later used node of)
lent_within used node of l = seq (placed_within node of l) (λ c place le q. given _)

passes_within : {d : ℕ} {later : Later} (used : Use) (node : ℕ) (of : Ready) → LaterWithin d later → Within Any d (passes later used node of)
passes_within U.Sink node of l = taken_within of l
passes_within U.Read node of l = lent_within _ node of l
passes_within U.Let node of l = lent_within _ node of l
passes_within U.Inout node of l = lent_within _ node of l
passes_within U.Set node of l = lent_within _ node of l
passes_within U.Assigned node of l = lent_within _ node of l
passes_within U.Compound node of l = lent_within _ node of l

part_within : {d : ℕ} {later : Later} (node : ℕ) (before : Ready) (k : Option ℕ) → LaterWithin d later → Within Any d (Expressions.part_or later node before k)
part_within node before None l = given before
part_within node before (Some k) l = seq (placed_within node before l) (λ c whole le q. given _)

-- CALLS

receives_within : {d : ℕ} {later : Later} (used : Option Use) (node : ℕ) (before : Ready) → LaterWithin d later
    → Within Any d (Expressions.receives later used node before)
receives_within None node before l = given _
receives_within (Some used) node before l = passes_within used node before l

indexes_within : {d : ℕ} {later : Later} (span : Span) (array : Located) (arguments : Arguments) → LaterWithin d later
    → Within Any d (Expressions.indexes later span array arguments)
indexes_within span array NoArgument l = never
indexes_within span array (Moved v more) l = never
indexes_within span array (Lent used index more) l = seq (reads_within index l) (λ c v le q. given _)

element_within : {d : ℕ} {later : Later} (span : Span) (arguments : Arguments) → LaterWithin d later → Within Any d (Expressions.element later span arguments)
element_within span NoArgument l = never
element_within span (Moved v more) l = never
element_within span (Lent used array more) l = indexes_within span array more l

results_within : {d : ℕ} {does : Does Val} → Within Any d does → Within Any d (Expressions.results does)
results_within is = seq is (λ c v le q. given _)

subscripted_within : {d : ℕ} {later : Later} (sig : Sig) (type : PlainType) (arguments : Arguments) (variant : Mode) → LaterWithin d later
    → Within Any d (Expressions.subscripted later sig type arguments variant)
subscripted_within sig type arguments mode.Let l = given _
subscripted_within sig type arguments mode.Inout l = given _
subscripted_within sig type arguments mode.Set l = given _
subscripted_within sig type arguments mode.Sink l = results_within (calls_within sig arguments l)
subscripted_within sig type arguments mode.Yielded l = never

invokes_within : {d : ℕ} {later : Later} (sig : Sig) (at : T.At) (spans : List Span) (arguments : Arguments) (callee : Callee) → LaterWithin d later
    → Within Any d (Expressions.invokes later sig at spans arguments callee)
invokes_within sig at spans arguments (S.Declared node) l =
    chosen _ (subscripted_within sig _ arguments sig.variant l) (results_within (calls_within sig arguments l))
invokes_within sig at spans arguments (S.Required requirement place) l = results_within (calls_within sig arguments l)
invokes_within {later = later} sig at spans arguments (S.Predeclared number) l =
    results_within (with_within false arguments (works later _ at.span spans) l (λ values. works_within _ at.span spans values l))
invokes_within sig at spans arguments (S.Initialiser product) l = given _
invokes_within sig at spans arguments (S.Conversion to) l =
    results_within (with_within false arguments (Expressions.converted to at.span) l (λ values. seq (converts_within to at.span _) (λ c v le q. given _)))
invokes_within sig at spans arguments S.Element l = element_within _ arguments l

applies_within : {d : ℕ} {later : Later} (at : T.At) (node : ℕ) (before : Ready) (sig : Option Sig) (arguments : List Use → Does Arguments) (spans : List Span)
    → LaterWithin d later → ((uses : List Use) → Within Any d (arguments uses)) → Within Any d (Expressions.applies later at node before sig arguments spans)
applies_within at node before None arguments spans l is = never
applies_within at node before (Some sig) arguments spans l is =
    seq (receives_within sig.receiver node before l) (λ c on le q. seq (less le (is sig.arguments))
    (λ b given lt r. invokes_within sig at spans (on given) sig.callee (later_less (thus lt le) l)))

member_within : {d : ℕ} {later : Later} (at : T.At) (node : ℕ) (before : Ready) (name : List ℕ) (sig : Option Sig) → LaterWithin d later
    → Within Any d (Expressions.steps_to_member later at node before name sig)
member_within at node before name None l = part_within node before _ l
member_within at node before name (Some sig) l = applies_within at node before (Some sig) Expressions.no_arguments [] l (λ uses. given _)

-- OPERATORS

both_within : {d : ℕ} {later : Later} (o : Operator) (span : Span) (left right : Located) → LaterWithin d later
    → Within Any d (Expressions.both later o span left right)
both_within o span left right l = with_within false (Lent U.Read left (Lent U.Read right NoArgument)) (Expressions.of_two o span) l
    (λ values. seq (operates_within o span _ _) (λ c v le q. given _))

one_within : {d : ℕ} {later : Later} (o : UnaryOperator) (span : Span) (operand : Located) → LaterWithin d later
    → Within Any d (Expressions.alone later o span operand)
one_within o span operand l = with_within false (Lent U.Read operand NoArgument) (Expressions.of_one o span) l
    (λ values. seq (alone_within o span _) (λ c v le q. given _))

right_within : {d : ℕ} {later : Later} (node : ℕ) {right : Does Ready} → LaterWithin d later → Within Any d right
    → Within Any d (Expressions.right_side later node right)
right_within node l is = statement_within l (seq is (λ c of le q. looked_within node of (later_less le l)))

operands_within : {d : ℕ} {later : Later} (o : Operator) (span : Span) (left_node : ℕ) (left : Ready) (right_node : ℕ) {right : Does Ready}
    → LaterWithin d later → Within Any d right → Within Any d (Expressions.operands later o span left_node left right_node right)
operands_within o span left_node left right_node l is =
    seq (placed_within left_node left l) (λ c one le q. seq (less le is) (λ b of lt r. seq (placed_within right_node of (later_less (thus lt le) l))
    (λ e two ll z. both_within o span one two (later_less (thus ll (thus lt le)) l))))

joins_within : {d : ℕ} {later : Later} (o : Operator) (span : Span) (left_node : ℕ) (left : Ready) (right_node : ℕ) {right : Does Ready}
    → LaterWithin d later → Within Any d right → Within Any d (Expressions.joins later o span left_node left right_node right)
joins_within operator.And span left_node left right_node l is =
    seq (looked_within left_node left l) (λ c v le q. chosen (is_true v) (right_within right_node (later_less le l) (less le is)) (given _))
joins_within operator.Or span left_node left right_node l is =
    seq (looked_within left_node left l) (λ c v le q. chosen (is_true v) (given _) (right_within right_node (later_less le l) (less le is)))
joins_within o span left_node left right_node l is = operands_within o span left_node left right_node l is

-- EXPRESSIONS

mutual
  pub ready_within : {d : ℕ} {later : Later} (e : T.Expr) → LaterWithin d later → Within Any d (ready later e)
  ready_within (T.Chain first links at) l = seq (ready_within first l) (λ c left le q. links_within _ left links (later_less le l))
  ready_within (T.Unary o operand at) l =
      seq (ready_within operand l) (λ c of le q. seq (placed_within _ of (later_less le l))
      (λ b place lt r. results_within (one_within o at.span place (later_less (thus lt le) l))))
  ready_within (T.Marked operand at) l = ready_within operand l
  ready_within (T.Postfix primary steps at) l = seq (ready_within primary l) (λ c before le q. steps_within _ before steps (later_less le l))
  ready_within (T.Number number at) l = given _
  ready_within (T.Truth truth at) l = given _
  ready_within (T.Named name at) l = given _
  ready_within (T.SelfValue token at) l = given _
  ready_within (T.EmptyArray written at) l = given _
  ready_within (T.Tuple parts at) l = seq (all_within parts l) (λ c vs le q. given _)
  ready_within (T.Array elements at) l = seq (all_within elements l) (λ c vs le q. given _)
  ready_within (T.IfElse choices otherwise at) l =
      results_within (chooses_within choices l (seq (ready_within otherwise l) (λ c of le q. takes_within of (later_less le l))))

  all_within : {d : ℕ} {later : Later} (parts : T.Exprs) → LaterWithin d later → Within Any d (Expressions.all_taken later parts)
  all_within T.NoExpr l = given _
  all_within (T.ThenExpr e more) l =
      seq (ready_within e l) (λ c of le q. seq (takes_within of (later_less le l)) (λ b v lt r. seq (all_within more (later_less (thus lt le) l))
      (λ e vs ll z. given _)))

  links_within : {d : ℕ} {later : Later} (node : ℕ) (left : Ready) (links : T.Links) → LaterWithin d later
      → Within Any d (Expressions.links_on later node left links)
  links_within node left T.NoLink l = given left
  links_within node left (T.ThenLink o token operand at more) l =
      seq (joins_within o at.span node left _ l (ready_within operand l)) (λ c v le q. links_within at.node (Has v) more (later_less le l))

  steps_within : {d : ℕ} {later : Later} (node : ℕ) (before : Ready) (steps : T.Steps) → LaterWithin d later
      → Within Any d (Expressions.steps_on later node before steps)
  steps_within node before T.NoStep l = given before
  steps_within node before (T.ThenStep step more) l = seq (step_within node before step l) (λ c next le q. steps_within _ next more (later_less le l))

  step_within : {d : ℕ} {later : Later} (node : ℕ) (before : Ready) (step : T.Step) → LaterWithin d later
      → Within Any d (Expressions.step_on later node before step)
  step_within {later = later} node before (T.MemberStep name at) l = member_within at node before name.text (later.known.call at.node) l
  step_within node before (T.PartStep number at) l = part_within node before _ l
  step_within {later = later} node before (T.CallStep args at) l =
      applies_within at node before _ (Expressions.passed later args) _ l (λ uses. passed_within args uses l)
  step_within {later = later} node before (T.IndexStep args at) l =
      applies_within at node before _ (Expressions.passed later args) _ l (λ uses. passed_within args uses l)

  passed_within : {d : ℕ} {later : Later} (args : T.Args) (uses : List Use) → LaterWithin d later → Within Any d (Expressions.passed later args uses)
  passed_within T.NoArg uses l = given _
  passed_within (T.ThenArg label value more) uses l =
      seq (ready_within value l) (λ c of le q. seq (passes_within _ _ of (later_less le l))
      (λ b one lt r. seq (passed_within more _ (later_less (thus lt le) l)) (λ e others ll z. given _)))

  chooses_within : {d : ℕ} {later : Later} (choices : T.Choices) {otherwise : Does Val} → LaterWithin d later → Within Any d otherwise
      → Within Any d (Expressions.chooses later choices otherwise)
  chooses_within T.NoChoice l is = statement_within l is
  chooses_within (T.ThenChoice token condition value more) l is =
      seq (statement_within l (seq (ready_within condition l) (λ c of le q. looked_within _ of (later_less le l))))
      (λ c v le q. chosen (is_true v)
      (statement_within (later_less le l) (seq (ready_within value (later_less le l)) (λ b of lt r. takes_within of (later_less (thus lt le) l))))
      (chooses_within more (later_less le l) (less le is)))
