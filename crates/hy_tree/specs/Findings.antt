-- What each name of a source stands for, and where the rules N1 to N5 are broken: all that there is to find, in the order of a
-- walk over the tree.
use Rattle.std.specs.Prelude.{ℕ, List, [], ◌∷◌, ◌++◌, Option, Some, None, Bool, true, false, ◌||◌, ◌&&◌, not, codes, Contains, slice_set, replicate, min}
use Rattle.std.specs.Prelude.{◌+◌, ◌-◌, ◌^◌}
use Rattle.std.specs.Option.{unwrap_or}
use Rattle.std.specs.Str.{bytes_eq}
use Rattle.hy_base.specs.First.{Refusal}
use Rattle.hy_base.specs.declared.position.Span.{Span}
use Rattle.hy_base.specs.declared.refusal.Rule.{Rule}
use Rattle.hy_base.specs.declared.refusal.Rule.TheVariants.{N1, N2, N3, N4, N5}
use Rattle.hy_tree.specs.Tree as T
use Rattle.hy_tree.specs.Names.{Names, no_names, with_name, or, is_there, in_blocks, full_name, labels_of_args, base_text, own_name}
use Rattle.hy_tree.specs.Numbers.{count_program}
use Rattle.hy_tree.specs.Parts.{name_span}
use Rattle.hy_tree.specs.FileNames.{Family, no_family, File, is_reserved, predeclared, member_name, with_member, with_decl, with_decls}
use Rattle.hy_tree.specs.declared.declaration.CallableKind.{CallableKind}
use Rattle.hy_tree.specs.declared.declaration.CallableKind.TheVariants as kind
use Rattle.hy_tree.specs.declared.declaration.TypeParam.{TypeParam}
use Rattle.hy_tree.specs.declared.meant.Meant.{Meant}
use Rattle.hy_tree.specs.declared.meant.Meant.TheVariants as meant
use Rattle.hy_tree.specs.declared.name.Name.{Name}
use Rattle.hy_tree.specs.declared.name.NameUse.{NameUse}
use Rattle.hy_tree.specs.declared.operator.Mode.{Mode}
use Rattle.hy_tree.specs.declared.operator.Mode.TheVariants as mode

pub data Finding : Type 0 where
  -- the name at this node stands for this
  Stands : (node : ℕ) → Meant → Finding
  -- a rule is broken here
  Broken : Rule → Span → Finding

abbrev pub when : Bool → Finding → List Finding
when true finding = finding ∷ []
when false finding = []

abbrev pub stands : ℕ → Option Meant → List Finding
stands node (Some meaning) = Stands node meaning ∷ []
stands node None = []

-- a name that has to stand for something: what it stands for, or the rule that is broken where it stands for nothing
abbrev pub known : Rule → Span → ℕ → Option Meant → List Finding
known rule span node (Some meaning) = Stands node meaning ∷ []
known rule span node None = Broken rule span ∷ []

-- a name is declared after these
abbrev pub declares : Names → Name → List Finding
declares before name = when (is_there (before name.text) || is_reserved name.text) (Broken N2 name.span)

-- what is around a phrase: the file, the fields of the type of `self`, the type parameters, and what `Self` stands for. Outside
-- types, traits and conformances there is neither `self` nor `Self`.
pub record Around : Type 0 where
  pub file : File
  pub fields : Names
  pub generics : Names
  pub own : Option Meant

-- TYPES AND TRAITS

-- type parameters come first
abbrev pub type_named : Around → Names
type_named around name = or (around.generics name) (around.file.types name)

abbrev mutual
  pub find_type : Around → T.TypeExp → List Finding
  find_type around (T.NamedType name at) = known N3 name.span at.node (type_named around name.text)
  find_type around (T.SelfType token at) = known N3 token at.node around.own
  find_type around (T.ArrayType element at) = find_type around element
  find_type around (T.TupleType parts at) = find_types around parts

  pub find_types : Around → T.TypeExps → List Finding
  find_types around T.NoType = []
  find_types around (T.ThenType written more) = find_type around written ++ find_types around more

abbrev pub find_written : Around → Option T.TypeExp → List Finding
find_written around (Some written) = find_type around written
find_written around None = []

abbrev pub find_trait : File → NameUse → List Finding
find_trait file name = known N3 name.span name.node (file.traits name.text)

abbrev pub find_traits : File → List NameUse → List Finding
find_traits file [] = []
find_traits file (name ∷ more) = find_trait file name ++ find_traits file more

-- EXPRESSIONS

-- how a name is used: alone, or with arguments in parentheses or in brackets right after it
pub data Use : Type 0 where
  Alone : Use
  Called : (labels : List (Option (List ℕ))) → Use
  Indexed : (labels : List (Option (List ℕ))) → Use

abbrev pub use_before : T.Steps → Use
use_before T.NoStep = Alone
use_before (T.ThenStep (T.CallStep args at) more) = Called (labels_of_args args)
use_before (T.ThenStep (T.IndexStep args at) more) = Indexed (labels_of_args args)
use_before (T.ThenStep (T.MemberStep name at) more) = Alone
use_before (T.ThenStep (T.PartStep number at) more) = Alone

-- a call finds no subscript, and brackets find no function
abbrev pub as_call : Option Meant → Option Meant
as_call (Some (meant.Sub node)) = None
as_call other = other

abbrev pub as_index : Option Meant → Option Meant
as_index (Some (meant.Sub node)) = Some (meant.Sub node)
as_index other = None

-- a function or subscript by its full name
abbrev pub callable_named : File → List ℕ → Use → Option Meant
callable_named file name Alone = None
callable_named file name (Called labels) = as_call (file.callables (full_name name labels))
callable_named file name (Indexed labels) = as_index (file.callables (full_name name labels))

-- what a name in an expression stands for: a local name, the nearest first; a field of the type of `self`; a function or
-- subscript by its full name, a type, a trait
abbrev pub stands_for : Around → List Names → List ℕ → Use → Option Meant
stands_for around blocks name used =
    or (in_blocks blocks name) (or (around.fields name) (or (callable_named around.file name used) (or (around.file.types name) (around.file.traits name))))

-- a name that stands for nothing is unknown, unless it is the base name of functions or subscripts of the file
abbrev pub found_name : File → Name → ℕ → Option Meant → List Finding
found_name file name node (Some meaning) = Stands node meaning ∷ []
found_name file name node None = when (not (is_there (file.bases name.text))) (Broken N1 name.span)

abbrev pub find_name : Around → List Names → Name → ℕ → Use → List Finding
find_name around blocks name node used = found_name around.file name node (stands_for around blocks name.text used)

abbrev mutual
  pub find_as : Around → List Names → Use → T.Expr → List Finding
  find_as around blocks used (T.Chain first links at) = find_as around blocks Alone first ++ find_links around blocks links
  find_as around blocks used (T.Unary operator operand at) = find_as around blocks Alone operand
  find_as around blocks used (T.Marked operand at) = find_as around blocks Alone operand
  find_as around blocks used (T.Postfix primary steps at) = find_as around blocks (use_before steps) primary ++ find_steps around blocks steps
  find_as around blocks used (T.Number number at) = []
  find_as around blocks used (T.Truth truth at) = []
  find_as around blocks used (T.Named name at) = find_name around blocks name at.node used
  find_as around blocks used (T.SelfValue token at) = when (not (is_there around.own)) (Broken N1 token)
  find_as around blocks used (T.EmptyArray element at) = find_type around element
  find_as around blocks used (T.Tuple parts at) = find_exprs around blocks parts
  find_as around blocks used (T.Array elements at) = find_exprs around blocks elements
  find_as around blocks used (T.IfElse choices otherwise at) = find_choices around blocks choices ++ find_as around blocks Alone otherwise

  pub find_exprs : Around → List Names → T.Exprs → List Finding
  find_exprs around blocks T.NoExpr = []
  find_exprs around blocks (T.ThenExpr e more) = find_as around blocks Alone e ++ find_exprs around blocks more

  pub find_links : Around → List Names → T.Links → List Finding
  find_links around blocks T.NoLink = []
  find_links around blocks (T.ThenLink operator token operand at more) = find_as around blocks Alone operand ++ find_links around blocks more

  pub find_step : Around → List Names → T.Step → List Finding
  find_step around blocks (T.MemberStep name at) = when (not (is_there (around.file.members name.text))) (Broken N4 name.span)
  find_step around blocks (T.PartStep number at) = []
  find_step around blocks (T.CallStep args at) = find_args around blocks args
  find_step around blocks (T.IndexStep args at) = find_args around blocks args

  pub find_steps : Around → List Names → T.Steps → List Finding
  find_steps around blocks T.NoStep = []
  find_steps around blocks (T.ThenStep step more) = find_step around blocks step ++ find_steps around blocks more

  pub find_args : Around → List Names → T.Args → List Finding
  find_args around blocks T.NoArg = []
  find_args around blocks (T.ThenArg label value more) = find_as around blocks Alone value ++ find_args around blocks more

  pub find_choices : Around → List Names → T.Choices → List Finding
  find_choices around blocks T.NoChoice = []
  find_choices around blocks (T.ThenChoice token condition value more) =
      find_as around blocks Alone condition ++ (find_as around blocks Alone value ++ find_choices around blocks more)

abbrev pub find_expr : Around → List Names → T.Expr → List Finding
find_expr around blocks e = find_as around blocks Alone e

-- STATEMENTS

-- what is declared in the innermost block so far
abbrev pub here : List Names → Names
here [] = no_names
here (block ∷ around) = block

abbrev pub with_local : Name → ℕ → List Names → List Names
with_local name node [] = []
with_local name node (block ∷ around) = with_name name.text (meant.Local node) block ∷ around

-- a name is seen after the statement that declares it
abbrev pub behind : List Names → T.Stmt → List Names
behind blocks (T.Binding introducer name written value at) = with_local name at.node blocks
behind blocks (T.Declare name written at) = with_local name at.node blocks
behind blocks (T.Assign target value at) = blocks
behind blocks (T.Compound target operator value at) = blocks
behind blocks (T.Evaluate value at) = blocks
behind blocks (T.If branches otherwise at) = blocks
behind blocks (T.While token condition body at) = blocks
behind blocks (T.Return token value at) = blocks
behind blocks (T.Break at) = blocks
behind blocks (T.Continue at) = blocks
behind blocks (T.Yield token value at) = blocks

abbrev pub find_value : Around → List Names → Option T.Expr → List Finding
find_value around blocks (Some value) = find_expr around blocks value
find_value around blocks None = []

abbrev mutual
  pub find_stmt : Around → List Names → T.Stmt → List Finding
  find_stmt around blocks (T.Binding introducer name written value at) =
      find_written around written ++ (find_expr around blocks value ++ declares (here blocks) name)
  find_stmt around blocks (T.Declare name written at) = find_type around written ++ declares (here blocks) name
  find_stmt around blocks (T.Assign target value at) = find_expr around blocks target ++ find_expr around blocks value
  find_stmt around blocks (T.Compound target operator value at) = find_expr around blocks target ++ find_expr around blocks value
  find_stmt around blocks (T.Evaluate value at) = find_expr around blocks value
  find_stmt around blocks (T.If branches otherwise at) = find_branches around blocks branches ++ find_otherwise around blocks otherwise
  find_stmt around blocks (T.While token condition body at) = find_expr around blocks condition ++ find_block around blocks body
  find_stmt around blocks (T.Return token value at) = find_value around blocks value
  find_stmt around blocks (T.Break at) = []
  find_stmt around blocks (T.Continue at) = []
  find_stmt around blocks (T.Yield token value at) = find_expr around blocks value

  pub find_stmts : Around → List Names → T.Stmts → List Finding
  find_stmts around blocks T.NoStmt = []
  find_stmts around blocks (T.ThenStmt stmt more) = find_stmt around blocks stmt ++ find_stmts around (behind blocks stmt) more

  pub find_block : Around → List Names → T.Block → List Finding
  find_block around blocks (T.Braces stmts at) = find_stmts around (no_names ∷ blocks) stmts

  pub find_branches : Around → List Names → T.Branches → List Finding
  find_branches around blocks T.NoBranch = []
  find_branches around blocks (T.ThenBranch token condition body more) =
      find_expr around blocks condition ++ (find_block around blocks body ++ find_branches around blocks more)

  pub find_otherwise : Around → List Names → T.Otherwise → List Finding
  find_otherwise around blocks T.NoElse = []
  find_otherwise around blocks (T.Else body) = find_block around blocks body

-- WHAT IS CALLED

-- type parameters, from the k-th on
abbrev pub find_generics : File → Names → ℕ → List TypeParam → List Finding
find_generics file before k [] = []
find_generics file before k (p ∷ more) =
    (declares before p.name ++ find_traits file p.bounds) ++ find_generics file (with_name p.name.text (meant.Param k) before) (k + 1) more

abbrev pub with_generics : Names → ℕ → List TypeParam → Names
with_generics before k [] = before
with_generics before k (p ∷ more) = with_generics (with_name p.name.text (meant.Param k) before) (k + 1) more

abbrev pub find_params : Around → Names → List T.Param → List Finding
find_params around before [] = []
find_params around before (p ∷ more) =
    (declares before p.name ++ find_type around p.written) ++ find_params around (with_name p.name.text (meant.Local p.at.node) before) more

abbrev pub with_params : Names → List T.Param → Names
with_params before [] = before
with_params before (p ∷ more) = with_params (with_name p.name.text (meant.Local p.at.node) before) more

-- the word of a variant
abbrev pub word_of : Mode → List ℕ
word_of mode.Let = codes "let"
word_of mode.Inout = codes "inout"
word_of mode.Sink = codes "sink"
word_of mode.Set = codes "set"
word_of mode.Yielded = codes "yielded"

-- a body inside the block of the parameters: the new value stands after them
abbrev pub find_body : Around → List Names → T.Variant → Option Name → List Finding
find_body around blocks v None = find_block around blocks v.block
find_body around blocks v (Some value) = declares (here blocks) value ++ find_block around (with_local value v.at.node (no_names ∷ blocks)) v.block

abbrev pub find_variant : Around → List Names → Names → T.Variant → List Finding
find_variant around blocks words v = when (is_there (words (word_of v.mode))) (Broken N2 (unwrap_or v.keyword v.at.span)) ++ find_body around blocks v v.value

-- variants after those with these words
abbrev pub find_variants : Around → List Names → Names → List T.Variant → List Finding
find_variants around blocks words [] = []
find_variants around blocks words (v ∷ more) =
    find_variant around blocks words v ++ find_variants around blocks (with_name (word_of v.mode) meant.Nothing words) more

abbrev pub find_inside : Around → T.Callable → List Finding
find_inside around c =
    find_params around no_names c.params ++ (find_written around c.result ++ find_variants around (with_params no_names c.params ∷ []) no_names c.variants)

abbrev pub find_callable : Around → T.Callable → List Finding
find_callable around c = find_generics around.file no_names 0 c.generics ++ find_inside (record around { generics = with_generics no_names 0 c.generics }) c

abbrev pub find_member : Around → T.MemberKind → List Finding
find_member around (T.Field name written) = find_type around written
find_member around T.MemberwiseInit = []
find_member around (T.MemberCallable c) = find_callable around c

abbrev pub find_members : Around → List T.Member → List Finding
find_members around [] = []
find_members around (member ∷ more) = find_member around member.kind ++ find_members around more

-- DECLARATIONS

-- a member after those of this family: a field may share its name with no member
abbrev pub twice_member : Family → T.MemberKind → List Finding
twice_member family (T.Field name written) =
    when (is_there (family.fields name.text) || (is_there (family.bases name.text) || is_reserved name.text)) (Broken N2 name.span)
twice_member family T.MemberwiseInit = []
twice_member family (T.MemberCallable c) =
    when (is_there (family.fields (base_text c.name)) || (is_there (family.callables (member_name c)) ||
    (is_reserved (base_text c.name) || bytes_eq (member_name c) (codes "copy()")))) (Broken N2 (name_span c))

abbrev pub twice_members : Family → List T.Member → List Finding
twice_members family [] = []
twice_members family (member ∷ more) = twice_member family member.kind ++ twice_members (with_member family member.at.node member.kind) more

-- a type or a trait after the names of this file
abbrev pub twice_type : File → Name → List Finding
twice_type file name = when (is_there (file.types name.text) || (is_there (file.traits name.text) || is_reserved name.text)) (Broken N2 name.span)

abbrev pub twice_callable : File → T.Callable → List Finding
twice_callable file c = when (is_there (file.callables (own_name c)) || is_reserved (base_text c.name)) (Broken N2 (name_span c))

-- what is declared twice by a declaration after the names of this file
abbrev pub twice_decl : File → T.DeclKind → List Finding
twice_decl file (T.DeclCallable c) = twice_callable file c
twice_decl file (T.DeclProduct p) = twice_type file p.name ++ twice_members (file.families p.name.text) p.members
twice_decl file (T.DeclTrait t) = twice_type file t.name ++ twice_members no_family t.members
twice_decl file (T.DeclConform c) = twice_members (file.families c.target.text) c.members

abbrev pub twice_decls : File → List T.Decl → List Finding
twice_decls file [] = []
twice_decls file (decl ∷ more) = twice_decl file decl.kind ++ twice_decls (with_decl file decl.kind) more

abbrev pub find_decl : File → T.DeclKind → List Finding
find_decl file (T.DeclCallable c) = find_callable (record { file = file; fields = no_names; generics = no_names; own = None }) c
find_decl file (T.DeclProduct p) =
    find_traits file p.traits ++ find_members (record {
      file = file;
      fields = (file.families p.name.text).fields;
      generics = no_names;
      own =
          Some (meant.Product p.at.node);
    }) p.members
find_decl file (T.DeclTrait t) = find_members (record { file = file; fields = no_names; generics = no_names; own = Some (meant.Param 0) }) t.members
find_decl file (T.DeclConform c) =
    known N3 c.target.span c.target.node (file.types c.target.text)
    ++ (find_traits file c.traits ++ find_members (record {
      file = file;
      fields = (file.families c.target.text).fields;
      generics = no_names;
      own =
          Some (unwrap_or (file.types c.target.text) meant.Nothing);
    }) c.members)

abbrev pub find_decls : File → List T.Decl → List Finding
find_decls file [] = []
find_decls file (decl ∷ more) = find_decl file decl.kind ++ find_decls file more

-- `fun main()` without generics and result
abbrev pub is_function : CallableKind → Bool
is_function kind.Function = true
is_function kind.Subscript = false
is_function kind.Deinit = false
is_function kind.Requirement = false

abbrev pub none : {A : Type 0} → List A → Bool
none [] = true
none (x ∷ more) = false

abbrev pub is_main : T.DeclKind → Bool
is_main (T.DeclCallable c) =
    is_function c.kind && (bytes_eq (base_text c.name) (codes "main") && (none c.generics && (none c.params && not (is_there c.result))))
is_main (T.DeclProduct p) = false
is_main (T.DeclTrait t) = false
is_main (T.DeclConform c) = false

abbrev pub has_main : List T.Decl → Bool
has_main [] = false
has_main (decl ∷ more) = is_main decl.kind || has_main more

abbrev pub find_main : List T.Decl → List Finding
find_main decls = when (not (has_main decls)) (Broken N5 (record { from = 0; to = 0 }))

-- all that there is to find in a source
abbrev pub findings : T.Program → List Finding
findings p = twice_decls predeclared p.decls ++ (find_decls (with_decls predeclared p.decls) p.decls ++ find_main p.decls)

-- a rule on names is broken
abbrev pub Breaks : T.Program → Refusal → Type 0
Breaks p f = Contains (findings p) (Broken f.rule f.span)

-- the table by node, of this length, of what names stand for
abbrev pub stood : List Finding → List Meant → List Meant
stood [] table = table
stood (Stands node meaning ∷ more) table = stood more (slice_set table node meaning)
stood (Broken rule span ∷ more) table = stood more table

-- how many nodes have a place in it
abbrev pub nodes : T.Program → ℕ
nodes p = min (count_program p) (2 ^ 32 - 1)

-- what each name of a source stands for, by the number of its node
abbrev pub meanings : T.Program → List Meant
meanings p = stood (findings p) (replicate (nodes p) meant.Nothing)
