-- Where the rules T1 to T6 are broken: one list for each.
use Rattle.std.specs.Prelude.{◌&&◌, Bool as Truth, true, false, not, List, [], ◌∷◌, ◌++◌, Option, Some, None, cond, flat_map, option_map}
use Rattle.std.specs.Prelude.{unwrap_or, is_some, Contains}
use Rattle.hy_base.specs.First.{Refusal}
use Rattle.hy_base.specs.declared.position.Span.{Span}
use Rattle.hy_base.specs.declared.refusal.Rule.{Rule}
use Rattle.hy_base.specs.declared.refusal.Rule.TheVariants.{T1, T2, T3, T4, T5, T6}
use Rattle.hy_tree.specs.Tree as T
use Rattle.hy_tree.specs.Findings.{meanings}
use Rattle.hy_tree.specs.Parts.{head_of}
use Rattle.hy_tree.specs.declared.meant.Meant.{Meant}
use Rattle.hy_tree.specs.declared.meant.Meant.TheVariants as meant
use Rattle.hy_tree.specs.declared.operator.Operator.{Operator}
use Rattle.hy_types.specs.Types as Y
use Rattle.hy_signatures.specs.PlainTypes.{Found, unit}
use Rattle.hy_types.specs.Types.{PlainType}
use Rattle.hy_signatures.specs.Declarations.{Source, source_of, written_type, Field, fields_among, is_copyable, declares_copyable}
use Rattle.hy_signatures.specs.Signatures.{Wanted, Exactly, AnInteger, Parameter, fitted, is_determined, copies_soundly}
use Rattle.hy_check.specs.Postfix.{Seen, CallStep, NoSuchStep}
use Rattle.hy_signatures.specs.Operators.{fits, left_wanted, unary_wanted, joined}
use Rattle.hy_check.specs.Typing.{Around, typed, shown, seen}
use Rattle.hy_check.specs.Phrases.{Body, Phrase, AnExpr, AStep, AStmt, phrases, body_of}
use Rattle.hy_check.specs.Endless.{holds_itself}
use Rattle.hy_check.specs.Returns.{ends}

abbrev pub refusal : Rule → Span → Refusal
refusal rule span = record { rule = rule; span = span }

abbrev pub when : Truth → Rule → Span → List Refusal
when true rule span = refusal rule span ∷ []
when false rule span = []

-- T1: AN EXPRESSION HAS ANOTHER TYPE THAN IS WANTED

abbrev pub unfit_type : Wanted → Option PlainType → Span → List Refusal
unfit_type wanted None span = []
unfit_type wanted (Some type) span = when (not (fits wanted type)) T1 span

abbrev pub unfit : Around → Wanted → T.Expr → List Refusal
unfit around wanted e = unfit_type wanted (typed around e) (shown around e)

-- an expression that is wanted to have the type of another, where that has one
abbrev pub unlike : Around → Option PlainType → T.Expr → List Refusal
unlike around None e = []
unlike around (Some type) e = unfit around (Exactly type) e

abbrev pub all_unlike : Around → Option PlainType → T.Exprs → List Refusal
all_unlike around type T.NoExpr = []
all_unlike around type (T.ThenExpr e more) = unlike around type e ++ all_unlike around type more

-- the type, where it is one that is wanted on the left of the operator
abbrev pub left_type : Operator → Option PlainType → Option PlainType
left_type operator None = None
left_type operator (Some type) = cond (fits (left_wanted operator) type) (Some type) None

-- the right operands after a left one of this type
abbrev pub unfit_right : Around → Option PlainType → T.Links → List Refusal
unfit_right around left T.NoLink = []
unfit_right around left (T.ThenLink operator token operand at more) =
    unlike around (left_type operator left) operand ++ unfit_right around (joined operator left (typed around operand)) more

-- the left operand of the first operator; of the others it is what the one before gives
abbrev pub unfit_left : Around → T.Expr → T.Links → List Refusal
unfit_left around first T.NoLink = []
unfit_left around first (T.ThenLink operator token operand at more) = unfit around (left_wanted operator) first

-- later elements have the type of the first
abbrev pub unfit_elements : Around → T.Exprs → List Refusal
unfit_elements around T.NoExpr = []
unfit_elements around (T.ThenExpr first more) = all_unlike around (typed around first) more

abbrev pub unfit_conditions : Around → T.Choices → List Refusal
unfit_conditions around T.NoChoice = []
unfit_conditions around (T.ThenChoice token condition value more) = unfit around (Exactly Y.Bool) condition ++ unfit_conditions around more

abbrev pub values_unlike : Around → Option PlainType → T.Choices → List Refusal
values_unlike around type T.NoChoice = []
values_unlike around type (T.ThenChoice token condition value more) = unlike around type value ++ values_unlike around type more

-- later branches have the type of the first
abbrev pub unfit_values : Around → T.Choices → T.Expr → List Refusal
unfit_values around T.NoChoice otherwise = []
unfit_values around (T.ThenChoice token condition value more) otherwise =
    values_unlike around (typed around value) more ++ unlike around (typed around value) otherwise

abbrev pub unfit_parts : Around → T.Expr → List Refusal
unfit_parts around (T.Chain first links at) = unfit_left around first links ++ unfit_right around (typed around first) links
unfit_parts around (T.Unary operator operand at) = unfit around (unary_wanted operator) operand
unfit_parts around (T.Array elements at) = unfit_elements around elements
unfit_parts around (T.IfElse choices otherwise at) = unfit_conditions around choices ++ unfit_values around choices otherwise
unfit_parts around e = []

-- an argument against what is found for type parameters so far
abbrev pub unfit_argument : Around → Wanted → Found → Option PlainType → T.Expr → List Refusal
unfit_argument around wanted found None value = []
unfit_argument around wanted found (Some type) value = when (not (is_some (fitted wanted type found))) T1 (shown around value)

-- what is found after an argument; one that is refused, or has no type, tells nothing
abbrev pub found_after : Wanted → Found → Option PlainType → Found
found_after wanted found None = found
found_after wanted found (Some type) = unwrap_or (fitted wanted type found) found

abbrev pub unfit_arguments : Around → List Parameter → T.Args → Found → List Refusal
unfit_arguments around [] args found = []
unfit_arguments around (p ∷ params) T.NoArg found = []
unfit_arguments around (p ∷ params) (T.ThenArg label value more) found =
    unfit_argument around p.wanted found (typed around value) value ++ unfit_arguments around params more (found_after p.wanted found (typed around value))

abbrev pub args_of : T.Step → T.Args
args_of (T.MemberStep name at) = T.NoArg
args_of (T.PartStep number at) = T.NoArg
args_of (T.CallStep args at) = args
args_of (T.IndexStep args at) = args

abbrev pub unfit_step : Around → Seen → T.Step → List Refusal
unfit_step around (CallStep signature) step = unfit_arguments around signature.params (args_of step) signature.known
unfit_step around other step = []

-- a body without a written result gives `()`
abbrev pub unfit_return : Around → Body → Span → Option T.Expr → List Refusal
unfit_return around body token None = when (is_some body.result) T1 token
unfit_return around body token (Some value) = unfit around (Exactly (unwrap_or body.result unit)) value

abbrev pub branches_unfit : Around → T.Branches → List Refusal
branches_unfit around T.NoBranch = []
branches_unfit around (T.ThenBranch token condition body more) = unfit around (Exactly Y.Bool) condition ++ branches_unfit around more

abbrev pub integer_type : Option PlainType → Option PlainType
integer_type None = None
integer_type (Some type) = cond (fits AnInteger type) (Some type) None

abbrev pub unfit_stmt : Around → Body → T.Stmt → List Refusal
unfit_stmt around body (T.Binding introducer name written value at) =
    unlike around (option_map (λ (t : T.TypeExp). written_type around.source t) written) value
unfit_stmt around body (T.Declare name written at) = []
unfit_stmt around body (T.Assign target value at) = unlike around (typed around target) value
unfit_stmt around body (T.Compound target operator value at) = unfit around AnInteger target ++ unlike around (integer_type (typed around target)) value
unfit_stmt around body (T.Evaluate value at) = []
unfit_stmt around body (T.If branches otherwise at) = branches_unfit around branches
unfit_stmt around body (T.While token condition block at) = unfit around (Exactly Y.Bool) condition
unfit_stmt around body (T.Return token value at) = unfit_return around body token value
unfit_stmt around body (T.Break at) = []
unfit_stmt around body (T.Continue at) = []
unfit_stmt around body (T.Yield token value at) = unlike around body.yielded value

abbrev pub t1 : Phrase → List Refusal
t1 (AnExpr around used marked e) = unfit_parts around e
t1 (AStep around used marked before step more span) = unfit_step around (seen around before step more) step
t1 (AStmt around body stmt) = unfit_stmt around body stmt

-- T2: THERE IS NO SUCH MEMBER, LABELS OR COUNT

-- variables, parameters and fields of `self` are values
abbrev pub is_value : Meant → Truth
is_value (meant.Local node) = true
is_value (meant.SelfField node) = true
is_value other = false

abbrev pub no_value : Around → T.Expr → List Refusal
no_value around (T.Named name at) = when (not (is_value (around.source.meant at.node))) T2 at.span
no_value around e = []

abbrev pub no_such : Seen → Span → List Refusal
no_such NoSuchStep span = refusal T2 span ∷ []
no_such seen span = []

abbrev pub t2 : Phrase → List Refusal
t2 (AnExpr around used marked e) = no_value around e
t2 (AStep around used marked before step more span) = no_such (seen around before step more) span
t2 (AStmt around body stmt) = []

-- T4: A TYPE ARGUMENT IS NOT DETERMINED

abbrev pub undetermined : Seen → Span → List Refusal
undetermined (CallStep signature) span = when (not (is_determined signature)) T4 span
undetermined seen span = []

abbrev pub t4 : Phrase → List Refusal
t4 (AnExpr around used marked e) = []
t4 (AStep around used marked before step more span) = undetermined (seen around before step more) span
t4 (AStmt around body stmt) = []

-- T6: WHAT IS COPIED, OR IS A FIELD OF A COPYABLE TYPE, IS NOT COPYABLE

abbrev pub unsound_copy : Around → Seen → Span → List Refusal
unsound_copy around (CallStep signature) span = when (not (copies_soundly around.source around.generics signature)) T6 span
unsound_copy around seen span = []

abbrev pub t6 : Phrase → List Refusal
t6 (AnExpr around used marked e) = []
t6 (AStep around used marked before step more span) = unsound_copy around (seen around before step more) span
t6 (AStmt around body stmt) = []

-- the rules that a phrase breaks
abbrev pub broken_by : Phrase → List Refusal
broken_by phrase = t1 phrase ++ (t2 phrase ++ (t4 phrase ++ t6 phrase))

-- RULES ON DECLARATIONS: T3, T5, and T6 of fields

abbrev pub uncopyable_field : Source → Field → List Refusal
uncopyable_field source field = when (not (is_copyable source [] field.type)) T6 (T.at_type field.written).span

abbrev pub uncopyable_fields : Source → T.Product → List Refusal
uncopyable_fields source p =
    cond (declares_copyable source (Y.Product p.at.node) source.decls) (flat_map (uncopyable_field source) (fields_among source p.members)) []

abbrev pub field_t6 : Source → T.DeclKind → List Refusal
field_t6 source (T.DeclProduct p) = uncopyable_fields source p
field_t6 source other = []

abbrev pub t3 : Source → T.DeclKind → List Refusal
t3 source (T.DeclProduct p) = when (holds_itself source p.at.node) T3 p.name.span
t3 source other = []

-- a body with a result, some path through which comes to its end
abbrev pub without_return : Source → T.Callable → T.Variant → List Refusal
without_return source c v = when (is_some (body_of source c v).result && ends v.block) T5 (head_of c v)

abbrev pub callable_t5 : Source → T.Callable → List Refusal
callable_t5 source c = flat_map (without_return source c) c.variants

abbrev pub member_t5 : Source → T.Member → List Refusal
member_t5 source member = kind_t5 source member.kind
  where
    kind_t5 : Source → T.MemberKind → List Refusal
    kind_t5 source (T.Field name written) = []
    kind_t5 source T.MemberwiseInit = []
    kind_t5 source (T.MemberCallable c) = callable_t5 source c

abbrev pub t5 : Source → T.DeclKind → List Refusal
t5 source (T.DeclCallable c) = callable_t5 source c
t5 source (T.DeclProduct p) = flat_map (member_t5 source) p.members
t5 source (T.DeclTrait t) = []
t5 source (T.DeclConform c) = flat_map (member_t5 source) c.members

abbrev pub in_each_decl : (T.DeclKind → List Refusal) → Source → List Refusal
in_each_decl broken source = flat_map (λ (decl : T.Decl). broken decl.kind) source.decls

-- ALL OF THEM

pub record Broken : Type 0 where
  pub t1 : List Refusal
  pub t2 : List Refusal
  pub t3 : List Refusal
  pub t4 : List Refusal
  pub t5 : List Refusal
  pub t6 : List Refusal

-- where each rule is broken in a source
abbrev pub broken_in : Source → Broken
broken_in source = record {
  t1 = flat_map t1 (phrases source);
  t2 = flat_map t2 (phrases source);
  t3 = in_each_decl (t3 source) source;
  t4 = flat_map t4 (phrases source);
  t5 = in_each_decl (t5 source) source;
  t6 = flat_map t6 (phrases source) ++ in_each_decl (field_t6 source) source;
}

abbrev pub all_of : Broken → List Refusal
all_of b = b.t1 ++ (b.t2 ++ (b.t3 ++ (b.t4 ++ (b.t5 ++ b.t6))))

-- all refusals of a program
abbrev pub refusals : T.Program → List Refusal
refusals p = all_of (broken_in (source_of (meanings p) p))

-- a rule on types is broken
abbrev pub Breaks : T.Program → Refusal → Type 0
Breaks p f = Contains (refusals p) f
