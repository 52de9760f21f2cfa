-- The bodies of a source, and what a body may change.
use Rattle.std.specs.Prelude.{ℕ, ◌==◌, Bool as Truth, true, false, List, [], ◌∷◌, Option, Some, None, cond, flat_map, map, unwrap_or}
use Rattle.hy_tree.specs.Tree as T
use Rattle.hy_tree.specs.Names.{or}
use Rattle.hy_tree.specs.declared.declaration.CallableKind.{CallableKind}
use Rattle.hy_tree.specs.declared.declaration.CallableKind.TheVariants as kind
use Rattle.hy_tree.specs.declared.operator.Introducer.{Introducer}
use Rattle.hy_tree.specs.declared.operator.Introducer.TheVariants as introducer
use Rattle.hy_tree.specs.declared.operator.Mode.{Mode}
use Rattle.hy_tree.specs.declared.operator.Mode.TheVariants as mode
use Rattle.hy_types.specs.Types as Y
use Rattle.hy_types.specs.Types.{PlainType}
use Rattle.hy_signatures.specs.Declarations.{Source, named_type}
use Rattle.hy_check.specs.Phrases.{Phrase, in_block, around_body, body_of}
use Rattle.hy_check.specs.Places.{Root, Variable, Itself, Yielded, Temporary}
use Rattle.hy_check.specs.Uses.{Use, Read, Let, Inout, Set, Sink, Assigned, Compound, use_in, use_by}

-- a variant of what is declared, with the type of `self` where there is one
pub record Body : Type 0 where
  pub own : Option PlainType
  pub callable : T.Callable
  pub variant : T.Variant

abbrev bodies_of : Option PlainType → T.Callable → List Body
bodies_of own c = map (λ (v : T.Variant). record { own = own; callable = c; variant = v }) c.variants

abbrev bodies_in_member : Option PlainType → T.Member → List Body
bodies_in_member own member = of_kind own member.kind
  where
    of_kind : Option PlainType → T.MemberKind → List Body
    of_kind own (T.Field name written) = []
    of_kind own T.MemberwiseInit = []
    of_kind own (T.MemberCallable c) = bodies_of own c

abbrev bodies_in : Source → T.DeclKind → List Body
bodies_in source (T.DeclCallable c) = bodies_of None c
bodies_in source (T.DeclProduct p) = flat_map (bodies_in_member (Some (Y.Product p.at.node))) p.members
bodies_in source (T.DeclTrait t) = []
bodies_in source (T.DeclConform c) = flat_map (bodies_in_member (Some (named_type source c.target.node))) c.members

abbrev pub bodies : Source → List Body
bodies source = flat_map (λ (decl : T.Decl). bodies_in source decl.kind) source.decls

-- the phrases of a body
abbrev pub phrases_of : Source → Body → List Phrase
phrases_of source b = in_block (around_body source b.own b.callable b.variant) (body_of source b.callable b.variant) b.variant.block

-- WHAT MAY BE CHANGED

-- what is lent for change, to be initialised or to be moved may be changed
abbrev changes : Use → Truth
changes Read = false
changes Let = false
changes Inout = true
changes Set = true
changes Sink = true
changes Assigned = true
changes Compound = true

-- `self`: in the body of a `deinit` it is lent for change, in others as the variant says
abbrev self_changes : CallableKind → Mode → Truth
self_changes kind.Deinit variant = true
self_changes kind.Function variant = changes (use_in variant)
self_changes kind.Subscript variant = changes (use_in variant)
self_changes kind.Requirement variant = changes (use_in variant)

-- what is `yielded` is lent as the variant says
abbrev param_changes : (variant convention : Mode) → Truth
param_changes variant mode.Yielded = changes (use_in variant)
param_changes variant convention = changes (use_by convention)

abbrev param_among : (variant : Mode) → ℕ → List T.Param → Option Truth
param_among variant node [] = None
param_among variant node (p ∷ more) = cond (p.at.node == node) (Some (param_changes variant p.mode)) (param_among variant node more)

-- A variable may be changed, and what `inout` binds. What `let` binds is only lent, or is owned and may be moved, and not changed.
abbrev bound_changes : Introducer → Truth
bound_changes introducer.Var = true
bound_changes introducer.Let = false
bound_changes introducer.Inout = true

abbrev mutual
  -- whether what is declared at a node in these statements may be changed
  in_stmts : ℕ → T.Stmts → Option Truth
  in_stmts node T.NoStmt = None
  in_stmts node (T.ThenStmt stmt more) = or (in_stmt node stmt) (in_stmts node more)

  in_stmt : ℕ → T.Stmt → Option Truth
  in_stmt node (T.Binding introducer name written value at) = cond (at.node == node) (Some (bound_changes introducer)) None
  in_stmt node (T.Declare name written at) = cond (at.node == node) (Some true) None
  in_stmt node (T.Assign target value at) = None
  in_stmt node (T.Compound target operator value at) = None
  in_stmt node (T.Evaluate value at) = None
  in_stmt node (T.If branches otherwise at) = or (in_branches node branches) (in_otherwise node otherwise)
  in_stmt node (T.While token condition body at) = in_braces node body
  in_stmt node (T.Return token value at) = None
  in_stmt node (T.Break at) = None
  in_stmt node (T.Continue at) = None
  in_stmt node (T.Yield token value at) = None

  in_braces : ℕ → T.Block → Option Truth
  in_braces node (T.Braces stmts at) = in_stmts node stmts

  in_branches : ℕ → T.Branches → Option Truth
  in_branches node T.NoBranch = None
  in_branches node (T.ThenBranch token condition body more) = or (in_braces node body) (in_branches node more)

  in_otherwise : ℕ → T.Otherwise → Option Truth
  in_otherwise node T.NoElse = None
  in_otherwise node (T.Else body) = in_braces node body

-- a parameter, else what the body declares; the new value of a `set` variant is owned
abbrev variable_changes : Body → ℕ → Truth
variable_changes b node = unwrap_or (or (param_among b.variant.mode node b.callable.params) (in_braces node b.variant.block)) true

-- Whether what a place begins with may be changed. What a subscript of the file yields is lent for change where it is changed, and a
-- temporary is owned.
abbrev pub may_change : Body → Root → Truth
may_change b (Variable node) = variable_changes b node
may_change b Itself = self_changes b.callable.kind b.variant.mode
may_change b (Yielded step) = true
may_change b Temporary = true
