-- What is found in a tree stands at nodes of the tree, in their order and at most one at each.
use Rattle.std.proofs.Common.{ℕ, ◌+◌, List, [], ◌∷◌, ◌++◌, Option, Some, None, Bool, true, false, ◌||◌, not}
use Rattle.std.specs.List.{flat_map}
use Rattle.std.specs.Option.{unwrap_or}
use Rattle.hy_base.specs.declared.position.Span.{Span}
use Rattle.hy_base.specs.declared.refusal.Rule.{Rule}
use Rattle.hy_base.specs.declared.refusal.Rule.TheVariants.{N1, N2, N3, N4, N5}
use Rattle.hy_tree.specs.FileNames.{Family, File, no_family, predeclared, with_member, with_decl, with_decls, is_reserved}
use Rattle.hy_tree.specs.Findings as F
use Rattle.hy_tree.specs.Findings.{Finding, Stands, Broken, Around, Use, Alone, when}
use Rattle.hy_tree.specs.Names.{Names, no_names, with_name, is_there}
use Rattle.hy_tree.specs.Numbers as N
use Rattle.hy_tree.specs.Parts.{name_span}
use Rattle.hy_tree.specs.Tree as T
use Rattle.hy_tree.specs.declared.declaration.TypeParam.{TypeParam}
use Rattle.hy_tree.specs.declared.meant.Meant.{Meant}
use Rattle.hy_tree.specs.declared.meant.Meant.TheVariants as meant
use Rattle.hy_tree.specs.declared.name.Name.{Name}
use Rattle.hy_tree.specs.declared.name.NameUse.{NameUse}

pub data StandAt : List Finding → List ℕ → Type 0 where
  nothing : StandAt [] []
  skipped : {fs : List Finding} {n : ℕ} {ns : List ℕ} → StandAt fs ns → StandAt fs (n ∷ ns)
  broken : {fs : List Finding} {rule : Rule} {span : Span} {ns : List ℕ} → StandAt fs ns → StandAt (Broken rule span ∷ fs) ns
  stands : {fs : List Finding} {n : ℕ} {meaning : Meant} {ns : List ℕ} → StandAt fs ns → StandAt (Stands n meaning ∷ fs) (n ∷ ns)

both : {fs gs : List Finding} {ns ms : List ℕ} → StandAt fs ns → StandAt gs ms → StandAt (fs ++ gs) (ns ++ ms)
both nothing k = k
both (skipped h) k = skipped (both h k)
both (broken h) k = broken (both h k)
both (stands h) k = stands (both h k)

three : {fs gs hs : List Finding} {ns ms ks : List ℕ} → StandAt fs ns → StandAt gs ms → StandAt hs ks → StandAt (fs ++ (gs ++ hs)) ((ns ++ ms) ++ ks)
three nothing k l = both k l
three (skipped h) k l = skipped (three h k l)
three (broken h) k l = broken (three h k l)
three (stands h) k l = stands (three h k l)

four : {fs gs hs js : List Finding} {ns ms ks ls : List ℕ} → StandAt fs ns → StandAt gs ms → StandAt hs ks → StandAt js ls
    → StandAt (fs ++ (gs ++ (hs ++ js))) (((ns ++ ms) ++ ks) ++ ls)
four nothing k l m = three k l m
four (skipped h) k l m = skipped (four h k l m)
four (broken h) k l m = broken (four h k l m)
four (stands h) k l m = stands (four h k l m)

-- and what stands at no node
also : {fs gs : List Finding} {ns : List ℕ} → StandAt fs ns → StandAt gs [] → StandAt (fs ++ gs) ns
also nothing k = k
also (skipped h) k = skipped (also h k)
also (broken h) k = broken (also h k)
also (stands h) k = stands (also h k)

broken_when : (b : Bool) (rule : Rule) (span : Span) → StandAt (when b (Broken rule span)) []
broken_when true rule span = broken nothing
broken_when false rule span = nothing

declares_at : (names : Names) (name : Name) → StandAt (F.declares names name) []
declares_at names name = broken_when (is_there (names name.text) || is_reserved name.text) N2 name.span

known_at : (rule : Rule) (span : Span) (node : ℕ) (o : Option Meant) → StandAt (F.known rule span node o) (node ∷ [])
known_at rule span node (Some meaning) = stands nothing
known_at rule span node None = skipped (broken nothing)

found_at : (file : File) (name : Name) (node : ℕ) (o : Option Meant) → StandAt (F.found_name file name node o) (node ∷ [])
found_at file name node (Some meaning) = stands nothing
found_at file name node None = skipped (broken_when (not (is_there (file.bases name.text))) N1 name.span)

-- TYPES AND TRAITS

mutual
  type_at : (around : Around) (t : T.TypeExp) → StandAt (F.find_type around t) (N.nodes_type t)
  type_at around (T.NamedType name at) = known_at N3 name.span at.node (F.type_named around name.text)
  type_at around (T.SelfType token at) = known_at N3 token at.node around.own
  type_at around (T.ArrayType element at) = skipped (type_at around element)
  type_at around (T.TupleType parts at) = skipped (types_at around parts)

  types_at : (around : Around) (ts : T.TypeExps) → StandAt (F.find_types around ts) (N.nodes_types ts)
  types_at around T.NoType = nothing
  types_at around (T.ThenType t more) = both (type_at around t) (types_at around more)

written_at : (around : Around) (o : Option T.TypeExp) → StandAt (F.find_written around o) (N.nodes_optional N.nodes_type o)
written_at around (Some t) = type_at around t
written_at around None = nothing

traits_at : (file : File) (names : List NameUse) → StandAt (F.find_traits file names) (flat_map N.nodes_use names)
traits_at file [] = nothing
traits_at file (name ∷ more) = both (known_at N3 name.span name.node (file.traits name.text)) (traits_at file more)

-- EXPRESSIONS

module _ (around : Around) (blocks : List Names) where
  mutual
    expr_at : (used : Use) (e : T.Expr) → StandAt (F.find_as around blocks used e) (N.nodes_expr e)
    expr_at used (T.Chain first links at) = skipped (both (expr_at Alone first) (links_at links))
    expr_at used (T.Unary operator operand at) = skipped (expr_at Alone operand)
    expr_at used (T.Marked operand at) = skipped (expr_at Alone operand)
    expr_at used (T.Postfix primary steps at) = skipped (both (expr_at (F.use_before steps) primary) (steps_at steps))
    expr_at used (T.Number number at) = skipped nothing
    expr_at used (T.Truth truth at) = skipped nothing
    expr_at used (T.Named name at) = found_at around.file name at.node (F.stands_for around blocks name.text used)
    expr_at used (T.SelfValue token at) = skipped (broken_when (not (is_there around.own)) N1 token)
    expr_at used (T.EmptyArray element at) = skipped (type_at around element)
    expr_at used (T.Tuple parts at) = skipped (exprs_at parts)
    expr_at used (T.Array elements at) = skipped (exprs_at elements)
    expr_at used (T.IfElse choices otherwise at) = skipped (both (choices_at choices) (expr_at Alone otherwise))

    exprs_at : (es : T.Exprs) → StandAt (F.find_exprs around blocks es) (N.nodes_exprs es)
    exprs_at T.NoExpr = nothing
    exprs_at (T.ThenExpr e more) = both (expr_at Alone e) (exprs_at more)

    links_at : (ls : T.Links) → StandAt (F.find_links around blocks ls) (N.nodes_links ls)
    links_at T.NoLink = nothing
    links_at (T.ThenLink operator token operand at more) = skipped (both (expr_at Alone operand) (links_at more))

    step_at : (s : T.Step) → StandAt (F.find_step around blocks s) (N.nodes_step s)
    step_at (T.MemberStep name at) = skipped (broken_when (not (is_there (around.file.members name.text))) N4 name.span)
    step_at (T.PartStep number at) = skipped nothing
    step_at (T.CallStep args at) = skipped (args_at args)
    step_at (T.IndexStep args at) = skipped (args_at args)

    steps_at : (ss : T.Steps) → StandAt (F.find_steps around blocks ss) (N.nodes_steps ss)
    steps_at T.NoStep = nothing
    steps_at (T.ThenStep step more) = both (step_at step) (steps_at more)

    args_at : (args : T.Args) → StandAt (F.find_args around blocks args) (N.nodes_args args)
    args_at T.NoArg = nothing
    args_at (T.ThenArg label value more) = both (expr_at Alone value) (args_at more)

    choices_at : (cs : T.Choices) → StandAt (F.find_choices around blocks cs) (N.nodes_choices cs)
    choices_at T.NoChoice = nothing
    choices_at (T.ThenChoice token condition value more) = three (expr_at Alone condition) (expr_at Alone value) (choices_at more)

value_at : (around : Around) (blocks : List Names) (o : Option T.Expr) → StandAt (F.find_value around blocks o) (N.nodes_optional N.nodes_expr o)
value_at around blocks (Some e) = expr_at around blocks Alone e
value_at around blocks None = nothing

-- STATEMENTS

module _ (around : Around) where
  mutual
    stmt_at : (blocks : List Names) (s : T.Stmt) → StandAt (F.find_stmt around blocks s) (N.nodes_stmt s)
    stmt_at blocks (T.Binding introducer name written value at) =
        skipped (both (written_at around written) (also (expr_at around blocks Alone value) (declares_at (F.here blocks) name)))
    stmt_at blocks (T.Declare name written at) = skipped (also (type_at around written) (declares_at (F.here blocks) name))
    stmt_at blocks (T.Assign target value at) = skipped (both (expr_at around blocks Alone target) (expr_at around blocks Alone value))
    stmt_at blocks (T.Compound target operator value at) = skipped (both (expr_at around blocks Alone target) (expr_at around blocks Alone value))
    stmt_at blocks (T.Evaluate value at) = skipped (expr_at around blocks Alone value)
    stmt_at blocks (T.If branches otherwise at) = skipped (both (branches_at blocks branches) (otherwise_at blocks otherwise))
    stmt_at blocks (T.While token condition body at) = skipped (both (expr_at around blocks Alone condition) (block_at blocks body))
    stmt_at blocks (T.Return token value at) = skipped (value_at around blocks value)
    stmt_at blocks (T.Break at) = skipped nothing
    stmt_at blocks (T.Continue at) = skipped nothing
    stmt_at blocks (T.Yield token value at) = skipped (expr_at around blocks Alone value)

    stmts_at : (blocks : List Names) (ss : T.Stmts) → StandAt (F.find_stmts around blocks ss) (N.nodes_stmts ss)
    stmts_at blocks T.NoStmt = nothing
    stmts_at blocks (T.ThenStmt s more) = both (stmt_at blocks s) (stmts_at (F.behind blocks s) more)

    block_at : (blocks : List Names) (b : T.Block) → StandAt (F.find_block around blocks b) (N.nodes_block b)
    block_at blocks (T.Braces stmts at) = skipped (stmts_at (no_names ∷ blocks) stmts)

    branches_at : (blocks : List Names) (bs : T.Branches) → StandAt (F.find_branches around blocks bs) (N.nodes_branches bs)
    branches_at blocks T.NoBranch = nothing
    branches_at blocks (T.ThenBranch token condition body more) =
        three (expr_at around blocks Alone condition) (block_at blocks body) (branches_at blocks more)

    otherwise_at : (blocks : List Names) (o : T.Otherwise) → StandAt (F.find_otherwise around blocks o) (N.nodes_otherwise o)
    otherwise_at blocks T.NoElse = nothing
    otherwise_at blocks (T.Else body) = block_at blocks body

-- DECLARATIONS

generics_at : (file : File) (names : Names) (k : ℕ) (ps : List TypeParam) → StandAt (F.find_generics file names k ps) (flat_map N.nodes_generic ps)
generics_at file names k [] = nothing
generics_at file names k (p ∷ more) = both (both (declares_at names p.name) (traits_at file p.bounds))
    (generics_at file (with_name p.name.text (meant.Param k) names) (k + 1) more)

params_at : (around : Around) (names : Names) (ps : List T.Param) → StandAt (F.find_params around names ps) (flat_map N.nodes_param ps)
params_at around names [] = nothing
params_at around names (p ∷ more) = both (skipped (both (declares_at names p.name) (type_at around p.written)))
    (params_at around (with_name p.name.text (meant.Local p.at.node) names) more)

body_at : (around : Around) (blocks : List Names) (v : T.Variant) (o : Option Name) → StandAt (F.find_body around blocks v o) (N.nodes_block v.block)
body_at around blocks v None = block_at around blocks v.block
body_at around blocks v (Some value) = both (declares_at (F.here blocks) value) (block_at around (F.with_local value v.at.node (no_names ∷ blocks)) v.block)

variants_at : (around : Around) (blocks : List Names) (words : Names) (vs : List T.Variant) → StandAt (F.find_variants around blocks words vs)
    (flat_map N.nodes_variant vs)
variants_at around blocks words [] = nothing
variants_at around blocks words (v ∷ more) =
    both (skipped (both (broken_when (is_there (words (F.word_of v.mode))) N2 (unwrap_or v.keyword v.at.span)) (body_at around blocks v v.value)))
    (variants_at around blocks (with_name (F.word_of v.mode) meant.Nothing words) more)

callable_at : (around : Around) (c : T.Callable) → StandAt (F.find_callable around c) (N.nodes_callable c)
callable_at around c =
    let inside : Around = record around { generics = F.with_generics no_names 0 c.generics } in
    skipped (four (generics_at around.file no_names 0 c.generics) (params_at inside no_names c.params) (written_at inside c.result)
    (variants_at inside (F.with_params no_names c.params ∷ []) no_names c.variants))

member_at : (around : Around) (m : T.MemberKind) → StandAt (F.find_member around m) (N.nodes_member_kind m)
member_at around (T.Field name written) = type_at around written
member_at around T.MemberwiseInit = nothing
member_at around (T.MemberCallable c) = callable_at around c

members_at : (around : Around) (ms : List T.Member) → StandAt (F.find_members around ms) (flat_map N.nodes_member ms)
members_at around [] = nothing
members_at around (m ∷ more) = both (skipped (member_at around m.kind)) (members_at around more)

decl_at : (file : File) (d : T.DeclKind) → StandAt (F.find_decl file d) (N.nodes_decl_kind d)
decl_at file (T.DeclCallable c) = callable_at (record { file = file; fields = no_names; generics = no_names; own = None }) c
decl_at file (T.DeclProduct p) =
    skipped (both (traits_at file p.traits) (members_at (record {
      file = file;
      fields = (file.families p.name.text).fields;
      generics = no_names;
      own =
          Some (meant.Product p.at.node);
    }) p.members))
decl_at file (T.DeclTrait t) = skipped (members_at (record { file = file; fields = no_names; generics = no_names; own = Some (meant.Param 0) }) t.members)
decl_at file (T.DeclConform c) =
    skipped (both (known_at N3 c.target.span c.target.node (file.types c.target.text))
    (both (traits_at file c.traits) (members_at (record {
      file = file;
      fields = (file.families c.target.text).fields;
      generics = no_names;
      own =
          Some (unwrap_or (file.types c.target.text) meant.Nothing);
    }) c.members)))

decls_at : (file : File) (ds : List T.Decl) → StandAt (F.find_decls file ds) (flat_map N.nodes_decl ds)
decls_at file [] = nothing
decls_at file (d ∷ more) = both (skipped (decl_at file d.kind)) (decls_at file more)

-- WHAT IS DECLARED TWICE

twice_member_at : (family : Family) (m : T.MemberKind) → StandAt (F.twice_member family m) []
twice_member_at family (T.Field name written) = broken_when _ N2 name.span
twice_member_at family T.MemberwiseInit = nothing
twice_member_at family (T.MemberCallable c) = broken_when _ N2 (name_span c)

twice_members_at : (family : Family) (ms : List T.Member) → StandAt (F.twice_members family ms) []
twice_members_at family [] = nothing
twice_members_at family (m ∷ more) = both (twice_member_at family m.kind) (twice_members_at (with_member family m.at.node m.kind) more)

twice_decl_at : (file : File) (d : T.DeclKind) → StandAt (F.twice_decl file d) []
twice_decl_at file (T.DeclCallable c) = broken_when _ N2 (name_span c)
twice_decl_at file (T.DeclProduct p) = both (broken_when _ N2 p.name.span) (twice_members_at (file.families p.name.text) p.members)
twice_decl_at file (T.DeclTrait t) = both (broken_when _ N2 t.name.span) (twice_members_at no_family t.members)
twice_decl_at file (T.DeclConform c) = twice_members_at (file.families c.target.text) c.members

twice_decls_at : (file : File) (ds : List T.Decl) → StandAt (F.twice_decls file ds) []
twice_decls_at file [] = nothing
twice_decls_at file (d ∷ more) = both (twice_decl_at file d.kind) (twice_decls_at (with_decl file d.kind) more)

pub program_at : (p : T.Program) → StandAt (F.findings p) (N.nodes_program p)
program_at p =
    both (twice_decls_at predeclared p.decls)
    (skipped (also (decls_at (with_decls predeclared p.decls) p.decls) (broken_when (not (F.has_main p.decls)) N5 (record { from = 0; to = 0 }))))
