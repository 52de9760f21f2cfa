-- Where a source has a form that is not built: the places of the rule X1, in the order of a walk over the tree. Each node whose
-- form is not built is one, and the parts of such a node are looked at as all others are. A name is one where it is a value or
-- the target of an assignment and stands for no variable; `meant` has what names stand for, by node.
use Rattle.std.specs.Prelude.{◌≡◌, ℕ, List, [], ◌∷◌, ◌++◌, Option, Some, None, Bool, true, false, ◌||◌, ◌&&◌, ◌==◌, not, slice_get, Contains}
use Rattle.hy_base.specs.First.{Refusal}
use Rattle.hy_base.specs.declared.position.Span.{Span}
use Rattle.hy_base.specs.declared.refusal.Rule.TheVariants.{X1}
use Rattle.hy_tree.specs.Tree as T
use Rattle.hy_tree.specs.Findings.{is_main, meanings}
use Rattle.hy_tree.specs.Names.{is_there}
use Rattle.hy_tree.specs.declared.declaration.TypeParam.{TypeParam}
use Rattle.hy_tree.specs.declared.meant.Meant.{Meant}
use Rattle.hy_tree.specs.declared.meant.Meant.TheVariants as meaning
use Rattle.hy_tree.specs.declared.name.NameUse.{NameUse}
use Rattle.hy_tree.specs.declared.operator.Arithmetic.TheVariants as arithmetic
use Rattle.hy_tree.specs.declared.operator.Introducer.{Introducer}
use Rattle.hy_tree.specs.declared.operator.Introducer.TheVariants as introducer
use Rattle.hy_tree.specs.declared.operator.Operator.{Operator}
use Rattle.hy_tree.specs.declared.operator.Operator.TheVariants as operator
use Rattle.hy_meaning.specs.Forms.{printed}

abbrev pub when : Bool → Span → List Span
when true span = span ∷ []
when false span = []

-- WRITTEN TYPES: none is built

abbrev mutual
  pub in_type : T.TypeExp → List Span
  in_type (T.NamedType name at) = at.span ∷ []
  in_type (T.SelfType token at) = at.span ∷ []
  in_type (T.ArrayType element at) = at.span ∷ in_type element
  in_type (T.TupleType parts at) = at.span ∷ in_types parts

  pub in_types : T.TypeExps → List Span
  in_types T.NoType = []
  in_types (T.ThenType written more) = in_type written ++ in_types more

abbrev pub in_written : Option T.TypeExp → List Span
in_written None = []
in_written (Some written) = in_type written

-- NAMES

-- what names stand for, by the number of the node
abbrev pub Table : Type 0
Table = List Meant

abbrev pub is_local : Option Meant → Bool
is_local (Some (meaning.Local node)) = true
is_local other = false

-- whether the name at this node stands for a variable
abbrev pub is_variable : Table → ℕ → Bool
is_variable meant node = is_local (slice_get meant node)

-- EXPRESSIONS
-- Built are a variable, a number, and a sum of these.

abbrev pub is_plus : Operator → Bool
is_plus (operator.Arithmetic arithmetic.Add) = true
is_plus operator = false

-- a sum, which is no operand of another
abbrev pub in_operand : T.Expr → List Span
in_operand (T.Chain first links at) = at.span ∷ []
in_operand e = []

abbrev pub is_name : T.Expr → Bool
is_name (T.Named name at) = true
is_name e = false

-- a step `(..)` or `[..]`
abbrev pub is_application : T.Step → Bool
is_application (T.CallStep args at) = true
is_application (T.IndexStep args at) = true
is_application (T.MemberStep name at) = false
is_application (T.PartStep number at) = false

-- whether arguments stand first among the steps
abbrev pub has_arguments : T.Steps → Bool
has_arguments T.NoStep = false
has_arguments (T.ThenStep step more) = is_application step

-- a name with arguments right after it is called, and is no value
abbrev pub is_callee : T.Expr → T.Steps → Bool
is_callee primary steps = is_name primary && has_arguments steps

abbrev pub unless : Bool → List Span → List Span
unless true spans = []
unless false spans = spans

abbrev mutual
  pub in_expr : Table → T.Expr → List Span
  in_expr meant (T.Chain first links at) = in_operand first ++ (in_expr meant first ++ in_links meant links)
  in_expr meant (T.Unary operator operand at) = at.span ∷ in_expr meant operand
  in_expr meant (T.Marked operand at) = at.span ∷ in_expr meant operand
  in_expr meant (T.Postfix primary steps at) = at.span ∷ (unless (is_callee primary steps) (in_expr meant primary) ++ in_steps meant steps)
  in_expr meant (T.Number number at) = []
  in_expr meant (T.Truth truth at) = at.span ∷ []
  in_expr meant (T.Named name at) = when (not (is_variable meant at.node)) name.span
  in_expr meant (T.SelfValue token at) = at.span ∷ []
  in_expr meant (T.EmptyArray element at) = at.span ∷ in_type element
  in_expr meant (T.Tuple parts at) = at.span ∷ in_exprs meant parts
  in_expr meant (T.Array elements at) = at.span ∷ in_exprs meant elements
  in_expr meant (T.IfElse choices otherwise at) = at.span ∷ (in_choices meant choices ++ in_expr meant otherwise)

  pub in_exprs : Table → T.Exprs → List Span
  in_exprs meant T.NoExpr = []
  in_exprs meant (T.ThenExpr e more) = in_expr meant e ++ in_exprs meant more

  pub in_links : Table → T.Links → List Span
  in_links meant T.NoLink = []
  in_links meant (T.ThenLink operator token operand at more) =
      (when (not (is_plus operator)) at.span ++ (in_operand operand ++ in_expr meant operand)) ++ in_links meant more

  pub in_step : Table → T.Step → List Span
  in_step meant (T.MemberStep name at) = at.span ∷ []
  in_step meant (T.PartStep number at) = at.span ∷ []
  in_step meant (T.CallStep args at) = at.span ∷ in_args meant args
  in_step meant (T.IndexStep args at) = at.span ∷ in_args meant args

  pub in_steps : Table → T.Steps → List Span
  in_steps meant T.NoStep = []
  in_steps meant (T.ThenStep step more) = in_step meant step ++ in_steps meant more

  pub in_args : Table → T.Args → List Span
  in_args meant T.NoArg = []
  in_args meant (T.ThenArg label value more) = in_expr meant value ++ in_args meant more

  pub in_choices : Table → T.Choices → List Span
  in_choices meant T.NoChoice = []
  in_choices meant (T.ThenChoice token condition value more) = (in_expr meant condition ++ in_expr meant value) ++ in_choices meant more

-- an operator with its right operand
abbrev pub in_link : Table → T.Link → List Span
in_link meant link = when (not (is_plus link.operator)) link.at.span ++ (in_operand link.operand ++ in_expr meant link.operand)

-- STATEMENTS
-- Built are `var NAME = value`, `NAME = value` and `print(value)`. A value is no bare place.

-- a step `.NAME`, `.NUMBER` or `[..]`
abbrev pub is_place_step : T.Step → Bool
is_place_step (T.MemberStep name at) = true
is_place_step (T.PartStep number at) = true
is_place_step (T.CallStep args at) = false
is_place_step (T.IndexStep args at) = true

-- whether the last step is such a one; `before` says it of those before
abbrev pub ends_in_place : Bool → T.Steps → Bool
ends_in_place before T.NoStep = before
ends_in_place before (T.ThenStep step more) = ends_in_place (is_place_step step) more

abbrev pub is_place : T.Expr → Bool
is_place (T.Named name at) = true
is_place (T.SelfValue token at) = true
is_place (T.Postfix primary steps at) = ends_in_place false steps
is_place e = false

-- the value of `var` or `=`
abbrev pub in_value : Table → T.Expr → List Span
in_value meant value = when (is_place value) (T.at_expr value).span ++ in_expr meant value

abbrev pub in_bound : Table → Introducer → T.Expr → List Span
in_bound meant introducer.Var value = in_value meant value
in_bound meant other value = in_expr meant value

-- `var` without a written type
abbrev pub is_plain : Introducer → Option T.TypeExp → Bool
is_plain introducer.Var None = true
is_plain other written = false

-- `_ = value` begins before its value
abbrev pub is_discarded : T.Expr → Span → Bool
is_discarded e span = not ((T.at_expr e).span.from == span.from)

abbrev pub in_printed : Table → T.Expr → Span → Option T.Expr → List Span
in_printed meant e span (Some value) = when (is_discarded e span) span ++ in_expr meant value
in_printed meant e span None = span ∷ in_expr meant e

abbrev pub in_returned : Table → Option T.Expr → List Span
in_returned meant None = []
in_returned meant (Some value) = in_expr meant value

abbrev mutual
  pub in_stmt : Table → T.Stmt → List Span
  in_stmt meant (T.Binding introducer name written value at) =
      when (not (is_plain introducer written)) at.span ++ (in_written written ++ in_bound meant introducer value)
  in_stmt meant (T.Declare name written at) = at.span ∷ in_type written
  in_stmt meant (T.Assign target value at) = when (not (is_name target)) at.span ++ (in_expr meant target ++ in_value meant value)
  in_stmt meant (T.Compound target operator value at) = at.span ∷ (in_expr meant target ++ in_expr meant value)
  in_stmt meant (T.Evaluate e at) = in_printed meant e at.span (printed e)
  in_stmt meant (T.If branches otherwise at) = at.span ∷ (in_branches meant branches ++ in_otherwise meant otherwise)
  in_stmt meant (T.While token condition body at) = at.span ∷ (in_expr meant condition ++ in_block meant body)
  in_stmt meant (T.Return token value at) = at.span ∷ in_returned meant value
  in_stmt meant (T.Break at) = at.span ∷ []
  in_stmt meant (T.Continue at) = at.span ∷ []
  in_stmt meant (T.Yield token value at) = at.span ∷ in_expr meant value

  pub in_stmts : Table → T.Stmts → List Span
  in_stmts meant T.NoStmt = []
  in_stmts meant (T.ThenStmt stmt more) = in_stmt meant stmt ++ in_stmts meant more

  pub in_block : Table → T.Block → List Span
  in_block meant (T.Braces stmts at) = in_stmts meant stmts

  pub in_branches : Table → T.Branches → List Span
  in_branches meant T.NoBranch = []
  in_branches meant (T.ThenBranch token condition body more) = (in_expr meant condition ++ in_block meant body) ++ in_branches meant more

  pub in_otherwise : Table → T.Otherwise → List Span
  in_otherwise meant T.NoElse = []
  in_otherwise meant (T.Else body) = in_block meant body

-- DECLARATIONS
-- Built is one: `fun main()` without `public`, generics and result.

abbrev pub in_uses : List NameUse → List Span
in_uses [] = []
in_uses (name ∷ more) = name.span ∷ in_uses more

-- type parameters are no nodes, but the traits that bound them are
abbrev pub in_generics : List TypeParam → List Span
in_generics [] = []
in_generics (p ∷ more) = in_uses p.bounds ++ in_generics more

abbrev pub in_params : List T.Param → List Span
in_params [] = []
in_params (p ∷ more) = (p.at.span ∷ in_type p.written) ++ in_params more

-- a variant with a keyword or a new value
abbrev pub is_special : T.Variant → Bool
is_special v = is_there v.keyword || is_there v.value

abbrev pub in_variants : Table → List T.Variant → List Span
in_variants meant [] = []
in_variants meant (v ∷ more) = (when (is_special v) v.at.span ++ in_block meant v.block) ++ in_variants meant more

-- what can be called, where `main` says that it is `fun main()`
abbrev pub in_callable : Table → Bool → T.Callable → List Span
in_callable meant main c = when (not main) c.at.span
    ++ (in_generics c.generics ++ (in_params c.params ++ (in_written c.result ++ in_variants meant c.variants)))

abbrev pub in_member_kind : Table → T.MemberKind → List Span
in_member_kind meant (T.Field name written) = in_type written
in_member_kind meant T.MemberwiseInit = []
in_member_kind meant (T.MemberCallable c) = in_callable meant false c

abbrev pub in_members : Table → List T.Member → List Span
in_members meant [] = []
in_members meant (member ∷ more) = (member.at.span ∷ in_member_kind meant member.kind) ++ in_members meant more

abbrev pub in_decl_kind : Table → T.DeclKind → List Span
in_decl_kind meant (T.DeclCallable c) = in_callable meant (is_main (T.DeclCallable c)) c
in_decl_kind meant (T.DeclProduct p) = p.at.span ∷ (in_uses p.traits ++ in_members meant p.members)
in_decl_kind meant (T.DeclTrait t) = t.at.span ∷ in_members meant t.members
in_decl_kind meant (T.DeclConform c) = c.at.span ∷ (c.target.span ∷ (in_uses c.traits ++ in_members meant c.members))

abbrev pub in_decl : Table → T.Decl → List Span
in_decl meant decl = when (decl.public || not (is_main decl.kind)) decl.at.span ++ in_decl_kind meant decl.kind

abbrev pub in_decls : Table → List T.Decl → List Span
in_decls meant [] = []
in_decls meant (decl ∷ more) = in_decl meant decl ++ in_decls meant more

-- all places, in a program's declarations
abbrev pub unbuilt : Table → T.Program → List Span
unbuilt meant p = in_decls meant p.decls

-- X1 is broken there
abbrev pub Breaks : T.Program → Refusal → Type 0
Breaks p f = (f.rule ≡ X1) × Contains (unbuilt (meanings p) p) f.span
