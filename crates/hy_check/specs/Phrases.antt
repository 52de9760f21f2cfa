-- The phrases of a source: its expressions, steps and statements, each with what is known around it and how it is used. The parts of
-- a phrase stand before it, in the order in which a walk that needs their types meets them.
use Rattle.std.specs.Prelude.{ℕ, ◌==◌, ◌&&◌, Bool as Truth, true, false, List, [], ◌∷◌, ◌++◌, Option, Some, None, cond, option_map}
use Rattle.hy_base.specs.declared.position.Span.{Span}
use Rattle.hy_tree.specs.Tree as T
use Rattle.hy_tree.specs.Parts.{is_bundle}
use Rattle.hy_tree.specs.declared.declaration.CallableKind.{CallableKind}
use Rattle.hy_tree.specs.declared.declaration.CallableKind.TheVariants as kind
use Rattle.hy_tree.specs.declared.operator.Introducer.{Introducer}
use Rattle.hy_tree.specs.declared.operator.Introducer.TheVariants as introducer
use Rattle.hy_tree.specs.declared.operator.Mode.{Mode}
use Rattle.hy_tree.specs.declared.operator.Mode.TheVariants as mode
use Rattle.hy_types.specs.Types as Y
use Rattle.hy_types.specs.Types.{PlainType}
use Rattle.hy_signatures.specs.Declarations.{Source, written_type, result_type, named_type}
use Rattle.hy_check.specs.Postfix.{Before, Has, Name, Member, none, Seen, CallStep}
use Rattle.hy_check.specs.Typing.{Around, typed, seen, after, begins}
use Rattle.hy_check.specs.Uses as U
use Rattle.hy_check.specs.Uses.{Use, argument_uses, variant_of, on_place, used_before}

-- the statements of a body: the type of its result, where one is written; the type of what it yields, if it does, and how that is
-- used
pub record Body : Type 0 where
  pub result : Option PlainType
  pub yielded : Option PlainType
  pub yields : Use

pub data Phrase : Type 0 where
  -- an expression; `marked` says that `&` stands right before it
  AnExpr : Around → Use → (marked : Truth) → T.Expr → Phrase
  -- a step, after this and in front of these steps, where what it gives is used so, with the span that a refusal gives it
  AStep : Around → Use → (marked : Truth) → Before → T.Step → (more : T.Steps) → Span → Phrase
  AStmt : Around → Body → T.Stmt → Phrase

-- EXPRESSIONS

-- the last step has the span of the whole postfix expression, with the parentheses around it
abbrev pub step_span : T.Step → T.Steps → Span → Span
step_span step T.NoStep whole = whole
step_span step (T.ThenStep next more) whole = (T.at_step step).span

-- a name that is called is no expression
abbrev pub unless_called : Before → List Phrase → List Phrase
unless_called (Name meaning) phrases = []
unless_called (Has value) phrases = phrases
unless_called (Member value name) phrases = phrases

-- how the arguments of a step are used; those of what is no call are only read
abbrev pub uses_in_step : Seen → (marked place : Truth) → Use → List Use
uses_in_step (CallStep s) marked place used = argument_uses s (variant_of s marked place used)
uses_in_step other marked place used = []

-- how what a step gives is used, in front of these steps, where the whole is used so
abbrev pub used_after : Around → (marked : Truth) → Before → T.Step → T.Steps → Use → Use
used_after around marked before step more used = used_before around marked (after around marked before step more) more used

-- how the arguments of a step are used, where the whole is used so
abbrev pub step_uses : Around → (marked : Truth) → Before → T.Step → T.Steps → Use → List Use
step_uses around marked before step more used =
    uses_in_step (seen around before step more) (marked && none more) (on_place before) (used_after around marked before step more used)

abbrev pub first_use : List Use → Use
first_use [] = U.Read
first_use (used ∷ more) = used

abbrev pub rest_uses : List Use → List Use
rest_uses [] = []
rest_uses (used ∷ more) = more

abbrev mutual
  pub in_expr : Around → Use → (marked : Truth) → T.Expr → List Phrase
  in_expr around used marked (T.Chain first links at) =
      in_expr around U.Read false first ++ (in_links around links ++ AnExpr around used marked (T.Chain first links at) ∷ [])
  in_expr around used marked (T.Unary operator operand at) =
      in_expr around U.Read false operand ++ AnExpr around used marked (T.Unary operator operand at) ∷ []
  in_expr around used marked (T.Marked operand at) = in_expr around used true operand ++ AnExpr around used marked (T.Marked operand at) ∷ []
  in_expr around used marked (T.Postfix primary steps at) =
      unless_called (begins around primary steps) (in_expr around (used_before around marked (begins around primary steps) steps used) false primary)
      ++ (in_steps around used marked (begins around primary steps) steps at.span ++ AnExpr around used marked (T.Postfix primary steps at) ∷ [])
  in_expr around used marked (T.Number number at) = AnExpr around used marked (T.Number number at) ∷ []
  in_expr around used marked (T.Truth truth at) = AnExpr around used marked (T.Truth truth at) ∷ []
  in_expr around used marked (T.Named name at) = AnExpr around used marked (T.Named name at) ∷ []
  in_expr around used marked (T.SelfValue token at) = AnExpr around used marked (T.SelfValue token at) ∷ []
  in_expr around used marked (T.EmptyArray element at) = AnExpr around used marked (T.EmptyArray element at) ∷ []
  in_expr around used marked (T.Tuple parts at) = in_exprs around parts ++ AnExpr around used marked (T.Tuple parts at) ∷ []
  in_expr around used marked (T.Array elements at) = in_exprs around elements ++ AnExpr around used marked (T.Array elements at) ∷ []
  in_expr around used marked (T.IfElse choices otherwise at) =
      in_choices around choices ++ (in_expr around U.Sink false otherwise ++ AnExpr around used marked (T.IfElse choices otherwise at) ∷ [])

  -- parts of a tuple and elements of an array are moved into it
  pub in_exprs : Around → T.Exprs → List Phrase
  in_exprs around T.NoExpr = []
  in_exprs around (T.ThenExpr e more) = in_expr around U.Sink false e ++ in_exprs around more

  pub in_links : Around → T.Links → List Phrase
  in_links around T.NoLink = []
  in_links around (T.ThenLink operator token operand at more) = in_expr around U.Read false operand ++ in_links around more

  pub in_choices : Around → T.Choices → List Phrase
  in_choices around T.NoChoice = []
  in_choices around (T.ThenChoice token condition value more) =
      in_expr around U.Read false condition ++ (in_expr around U.Sink false value ++ in_choices around more)

  pub in_steps : Around → Use → (marked : Truth) → Before → T.Steps → Span → List Phrase
  in_steps around used marked before T.NoStep whole = []
  in_steps around used marked before (T.ThenStep step more) whole =
      in_step around (step_uses around marked before step more used) step
      ++ AStep around (used_after around marked before step more used) (marked && none more) before step more (step_span step more whole)
      ∷ in_steps around used marked (after around marked before step more) more whole

  pub in_step : Around → List Use → T.Step → List Phrase
  in_step around uses (T.MemberStep name at) = []
  in_step around uses (T.PartStep number at) = []
  in_step around uses (T.CallStep args at) = in_args around uses args
  in_step around uses (T.IndexStep args at) = in_args around uses args

  pub in_args : Around → List Use → T.Args → List Phrase
  in_args around uses T.NoArg = []
  in_args around uses (T.ThenArg label value more) = in_expr around (first_use uses) false value ++ in_args around (rest_uses uses) more

-- STATEMENTS

-- `var x = place` moves it; `let` and `inout` bind a projection of it
abbrev pub bound_use : Introducer → Use
bound_use introducer.Var = U.Sink
bound_use introducer.Let = U.Let
bound_use introducer.Inout = U.Inout

abbrev pub with_local : Around → ℕ → Option PlainType → Around
with_local around node type = record around { locals = λ other. cond (other == node) type (around.locals other) }

-- the type that is written, else that of the value
abbrev pub bound_type : Around → Option T.TypeExp → T.Expr → Option PlainType
bound_type around (Some written) value = Some (written_type around.source written)
bound_type around None value = typed around value

-- what is known after a statement
abbrev pub after_stmt : Around → T.Stmt → Around
after_stmt around (T.Binding introducer name written value at) = with_local around at.node (bound_type around written value)
after_stmt around (T.Declare name written at) = with_local around at.node (Some (written_type around.source written))
after_stmt around stmt = around

abbrev pub in_value : Around → Option T.Expr → List Phrase
in_value around None = []
in_value around (Some value) = in_expr around U.Sink false value

abbrev mutual
  pub in_stmt : Around → Body → T.Stmt → List Phrase
  in_stmt around body (T.Binding introducer name written value at) =
      in_expr around (bound_use introducer) false value ++ AStmt around body (T.Binding introducer name written value at) ∷ []
  in_stmt around body (T.Declare name written at) = AStmt around body (T.Declare name written at) ∷ []
  in_stmt around body (T.Assign target value at) =
      in_expr around U.Assigned false target ++ (in_expr around U.Sink false value ++ AStmt around body (T.Assign target value at) ∷ [])
  in_stmt around body (T.Compound target operator value at) =
      in_expr around U.Compound false target ++ (in_expr around U.Read false value ++ AStmt around body (T.Compound target operator value at) ∷ [])
  in_stmt around body (T.Evaluate value at) = in_expr around U.Read false value ++ AStmt around body (T.Evaluate value at) ∷ []
  in_stmt around body (T.If branches otherwise at) =
      in_branches around body branches ++ (in_otherwise around body otherwise ++ AStmt around body (T.If branches otherwise at) ∷ [])
  in_stmt around body (T.While token condition block at) =
      in_expr around U.Read false condition ++ (in_block around body block ++ AStmt around body (T.While token condition block at) ∷ [])
  in_stmt around body (T.Return token value at) = in_value around value ++ AStmt around body (T.Return token value at) ∷ []
  in_stmt around body (T.Break at) = AStmt around body (T.Break at) ∷ []
  in_stmt around body (T.Continue at) = AStmt around body (T.Continue at) ∷ []
  in_stmt around body (T.Yield token value at) = in_expr around body.yields false value ++ AStmt around body (T.Yield token value at) ∷ []

  pub in_stmts : Around → Body → T.Stmts → List Phrase
  in_stmts around body T.NoStmt = []
  in_stmts around body (T.ThenStmt stmt more) = in_stmt around body stmt ++ in_stmts (after_stmt around stmt) body more

  pub in_block : Around → Body → T.Block → List Phrase
  in_block around body (T.Braces stmts at) = in_stmts around body stmts

  pub in_branches : Around → Body → T.Branches → List Phrase
  in_branches around body T.NoBranch = []
  in_branches around body (T.ThenBranch token condition block more) =
      in_expr around U.Read false condition ++ (in_block around body block ++ in_branches around body more)

  pub in_otherwise : Around → Body → T.Otherwise → List Phrase
  in_otherwise around body T.NoElse = []
  in_otherwise around body (T.Else block) = in_block around body block

-- BODIES

abbrev pub param_types : Source → List T.Param → ℕ → Option PlainType
param_types source [] node = None
param_types source (p ∷ more) node = cond (p.at.node == node) (Some (written_type source p.written)) (param_types source more node)

abbrev pub written_result : Source → Option T.TypeExp → Option PlainType
written_result source result = option_map (λ (written : T.TypeExp). written_type source written) result

-- the `inout` variant of a method bundle returns nothing
abbrev pub function_result : Truth → Mode → Option PlainType → Option PlainType
function_result true mode.Inout result = None
function_result bundle mode result = result

abbrev pub no_body : Body
no_body = record { result = None; yielded = None; yields = U.Let }

-- the `let` and `inout` variants of a subscript yield, and its `sink` variant returns
abbrev pub subscript_body : Mode → Option PlainType → Body
subscript_body mode.Let type = record { result = None; yielded = type; yields = U.Let }
subscript_body mode.Inout type = record { result = None; yielded = type; yields = U.Inout }
subscript_body mode.Sink type = record { result = type; yielded = None; yields = U.Let }
subscript_body mode.Set type = no_body
subscript_body mode.Yielded type = no_body

abbrev pub body_as : CallableKind → Truth → Mode → Option PlainType → Body
body_as kind.Function bundle mode type = record { result = function_result bundle mode type; yielded = None; yields = U.Let }
body_as kind.Subscript bundle mode type = subscript_body mode type
body_as kind.Deinit bundle mode type = no_body
body_as kind.Requirement bundle mode type = no_body

abbrev pub body_of : Source → T.Callable → T.Variant → Body
body_of source c v = body_as c.kind (is_bundle c) v.mode (written_result source c.result)

-- what is known at the start of a body: the new value of a `set` variant has the type of what the subscript yields
abbrev pub around_body : Source → Option PlainType → T.Callable → T.Variant → Around
around_body source own c v =
    with_local (record { source = source; generics = c.generics; own = own; locals = param_types source c.params })
    v.at.node (Some (result_type source c.result))

abbrev pub in_variants : Source → Option PlainType → T.Callable → List T.Variant → List Phrase
in_variants source own c [] = []
in_variants source own c (v ∷ more) = in_block (around_body source own c v) (body_of source c v) v.block ++ in_variants source own c more

abbrev pub in_callable : Source → Option PlainType → T.Callable → List Phrase
in_callable source own c = in_variants source own c c.variants

abbrev pub in_member : Source → Option PlainType → T.MemberKind → List Phrase
in_member source own (T.Field name written) = []
in_member source own T.MemberwiseInit = []
in_member source own (T.MemberCallable c) = in_callable source own c

abbrev pub in_members : Source → Option PlainType → List T.Member → List Phrase
in_members source own [] = []
in_members source own (member ∷ more) = in_member source own member.kind ++ in_members source own more

abbrev pub in_decl : Source → T.DeclKind → List Phrase
in_decl source (T.DeclCallable c) = in_callable source None c
in_decl source (T.DeclProduct p) = in_members source (Some (Y.Product p.at.node)) p.members
in_decl source (T.DeclTrait t) = []
in_decl source (T.DeclConform c) = in_members source (Some (named_type source c.target.node)) c.members

abbrev pub in_decls : Source → List T.Decl → List Phrase
in_decls source [] = []
in_decls source (decl ∷ more) = in_decl source decl.kind ++ in_decls source more

-- all phrases of a source
abbrev pub phrases : Source → List Phrase
phrases source = in_decls source source.decls
