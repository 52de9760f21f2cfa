-- What is still expected when some tokens of a program are read, with the parts that are made.
use Rattle.std.specs.Prelude.{◌+◌, ℕ, Bool, true, false, List, length, Option}
use Rattle.hy_base.specs.declared.position.Span.{Span}
use Rattle.hy_tree.specs.Tree as T
use Rattle.hy_tree.specs.declared.declaration.Label.{Label}
use Rattle.hy_tree.specs.declared.declaration.TypeParam.{TypeParam}
use Rattle.hy_tree.specs.declared.name.Name.{Name}
use Rattle.hy_tree.specs.declared.name.NameUse.{NameUse}
use Rattle.hy_tree.specs.declared.operator.Arithmetic.{Arithmetic}
use Rattle.hy_tree.specs.declared.operator.Introducer.{Introducer}
use Rattle.hy_tree.specs.declared.operator.Mode.{Mode}
use Rattle.hy_tree.specs.declared.operator.Operator.{Operator}
use Rattle.hy_tree.specs.declared.operator.UnaryOperator.{UnaryOperator}

-- DECLARATIONS

-- where a declaration or a member begins: whether `public` stands there, the number of tokens before it, and its first byte
pub record Start : Type 0 where
  pub public : Bool
  pub place : ℕ
  pub from : ℕ

-- a type, trait or conformance whose keyword is read, after these declarations
pub record Opening : Type 0 where
  pub decls : List T.Decl
  pub start : Start
  pub keyword : Span

-- what has a list of traits
pub data Subject : Type 0 where
  TypeSubject : Name → Subject
  ConformanceSubject : NameUse → Subject

-- whose members are read
pub data Owner : Type 0 where
  TraitOwner : Opening → Name → Owner
  ListedOwner : Opening → Subject → List NameUse → Owner

-- where something callable is declared: in the file after these declarations, or after these members
pub data Home : Type 0 where
  InFile : List T.Decl → Home
  InOwner : Owner → List T.Member → Home

-- the rules by which something callable is read
pub data Sort : Type 0 where
  FileFunction : Sort
  Method : Sort
  Requirement : Sort
  Subscript : Sort
  Deinit : Sort

-- what is read of something callable before its body
pub record Head : Type 0 where
  pub home : Home
  pub start : Start
  pub sort : Sort
  pub keyword : Span
  pub name : Option Name
  pub generics : List TypeParam
  pub params : List T.Param
  pub effect : Option Mode
  pub result : Option T.TypeExp

-- whose statements are read: the one plain body, or a variant after these, in braces that are opened there
pub data Body : Type 0 where
  PlainBody : Head → Body
  VariantBody : Head → (brace : Span) → List T.Variant → (keyword : Span) → Mode → (value : Option Name) → Body

-- OPERATORS

pub record Prefix : Type 0 where
  pub operator : UnaryOperator
  pub token : Span

-- the operators before an operand, the first one first, and its `&`
pub record Prefixes : Type 0 where
  pub operators : List Prefix
  pub mark : Option Span

-- a chain of operators of one level whose next operand is to come, or none
pub data Tier : Type 0 where
  NoChain : Tier
  OpenChain : (first : T.Expr) → List T.Link → Operator → (token : Span) → Tier

-- the chains that an operand may belong to
pub record Tiers : Type 0 where
  pub disjunction : Tier
  pub conjunction : Tier
  pub comparison : Tier
  pub addition : Tier
  pub multiplication : Tier

-- whether arguments stand in parentheses or in brackets
pub data Brackets : Type 0 where
  Round : Brackets
  Square : Brackets

-- a postfix expression whose next step has arguments: its primary expression and the steps before
pub record Callee : Type 0 where
  pub primary : T.Expr
  pub steps : List T.Step
  pub brackets : Brackets

-- STATEMENTS AND EXPRESSIONS

-- Where statements are read. The statements before the one that the block belongs to come with it.
pub data Place : Type 0 where
  InBody : Body → (brace : Span) → Place
  InBranch : (from : ℕ) → List T.Branch → (word : Span) → (condition : T.Expr) → (brace : Span) → List T.Stmt → Place → Place
  InElse : (from : ℕ) → List T.Branch → (brace : Span) → List T.Stmt → Place → Place
  InLoop : (word : Span) → (condition : T.Expr) → (brace : Span) → List T.Stmt → Place → Place

mutual
  -- What an expression is read for. The statements before its own come with it.
  pub data Use : Type 0 where
    -- a statement that is an expression, or an assignment
    ForTarget : List T.Stmt → Place → Use
    ForBinding : Introducer → (word : Span) → Name → Option T.TypeExp → List T.Stmt → Place → Use
    ForAssigned : (target : T.Expr) → List T.Stmt → Place → Use
    ForCompound : (target : T.Expr) → Arithmetic → List T.Stmt → Place → Use
    ForDiscard : (word : Span) → List T.Stmt → Place → Use
    ForReturn : (word : Span) → List T.Stmt → Place → Use
    ForYield : (word : Span) → List T.Stmt → Place → Use
    ForBranch : (from : ℕ) → List T.Branch → (word : Span) → List T.Stmt → Place → Use
    ForLoop : (word : Span) → List T.Stmt → Place → Use
    -- in parentheses, after these parts
    ForPart : (bracket : Span) → List T.Expr → Spot → Use
    -- of an array, after these elements
    ForElement : (bracket : Span) → List T.Expr → Spot → Use
    -- an argument with this label, after these arguments
    ForArgument : Callee → List T.Arg → (label : Option (List ℕ)) → Spot → Use
    -- of an `if` that is an expression: its condition, its value in braces, and the last value
    ForCondition : (from : ℕ) → List T.Choice → (word : Span) → Spot → Use
    ForChoice : (from : ℕ) → List T.Choice → (word : Span) → (condition : T.Expr) → Spot → Use
    ForOtherwise : (from : ℕ) → List T.Choice → Spot → Use

  -- where an operand stands in an expression
  pub data Spot : Type 0 where
    InExpr : Prefixes → Tiers → Use → Spot

-- what a type is read for
pub data TypeUse : Type 0 where
  -- an element of an array type, and a part of a type in parentheses
  ForElementType : (word : Span) → TypeUse → TypeUse
  ForTypePart : (bracket : Span) → List T.TypeExp → TypeUse → TypeUse
  ForEmptyArray : (word : Span) → Spot → TypeUse
  ForVariable : Introducer → (word : Span) → Name → List T.Stmt → Place → TypeUse
  ForParam : Head → (from : ℕ) → Label → Name → Mode → TypeUse
  ForResult : Head → TypeUse
  ForField : Owner → List T.Member → Start → Name → TypeUse

pub data State : Type 0 where
  -- In the file: a declaration or the end is to come; a declaration was read, and a `;` may come besides; `public` was read.
  -- With each, where the last token ends.
  FileReady : List T.Decl → (to : ℕ) → State
  FileDone : List T.Decl → (to : ℕ) → State
  PublicDecl : List T.Decl → Start → State
  -- the last token of a declaration was read
  DeclRead : List T.Decl → Start → T.DeclKind → (to : ℕ) → State
  -- its keyword was read; its name; `:` or `,` before the name of a trait; a name of a trait
  TypeWord : Opening → State
  TypeName : Opening → Name → State
  TraitWord : Opening → State
  TraitName : Opening → Name → State
  ConformanceWord : Opening → State
  ConformanceName : Opening → NameUse → State
  TraitWanted : Opening → Subject → List NameUse → State
  TraitListed : Opening → Subject → List NameUse → State
  -- Among members: one or the `}` is to come; one was read, and a `;` may come besides; `public` was read.
  MembersReady : Owner → List T.Member → State
  MembersDone : Owner → List T.Member → State
  PublicMember : Owner → List T.Member → Start → State
  -- the last token of a member was read
  MemberRead : Owner → List T.Member → Start → T.MemberKind → (to : ℕ) → State
  -- of a field: `var`, the name
  FieldWord : Owner → List T.Member → Start → State
  FieldName : Owner → List T.Member → Start → Name → State
  -- `memberwise` was read
  MemberwiseWord : Owner → List T.Member → Start → State
  -- Of a function: `fun` was read, and its name.
  FunctionWord : Home → Start → (keyword : Span) → State
  FunctionName : Head → State
  -- `subscript` was read, which may have no name where it is a member
  SubscriptWord : Home → Start → (keyword : Span) → State
  -- a type parameter is to come; its name was read; a bound is to come; a bound was read
  GenericWanted : Head → State
  GenericName : Head → Name → State
  BoundWanted : Head → Name → List NameUse → State
  BoundListed : Head → Name → List NameUse → State
  -- the parameters' `(` is to come; a parameter or `)` is to come; a parameter is to come
  ParamsWanted : Head → State
  ParamsOpened : Head → State
  ParamWanted : Head → State
  -- a name, which is the parameter's or its label; `_`; all before the `:`; the `:`; a parameter
  ParamFirst : Head → Name → State
  ParamUnlabelled : Head → (from : ℕ) → State
  ParamName : Head → (from : ℕ) → Label → Name → State
  ParamColon : Head → (from : ℕ) → Label → Name → State
  ParamRead : Head → State
  -- the `)` was read; the effect; the result. With each, where it ends.
  ParamsRead : Head → (to : ℕ) → State
  EffectRead : Head → (to : ℕ) → State
  ResultRead : Head → (to : ℕ) → State
  -- a block is to come
  BodyWanted : Body → State
  -- the `{` was read, after which variants or statements may stand; and a word there that begins either
  BodyOpened : Head → (brace : Span) → State
  BodyWord : Head → (brace : Span) → Introducer → Mode → (word : Span) → State
  -- a variant was read
  VariantsRead : Head → (brace : Span) → List T.Variant → State
  -- of `set (NAME)`: the word, the `(`, the name
  SetWord : Head → (brace : Span) → List T.Variant → (word : Span) → State
  SetOpened : Head → (brace : Span) → List T.Variant → (word : Span) → State
  SetName : Head → (brace : Span) → List T.Variant → (word : Span) → Name → State
  -- Of statements: the `{` was read; a `;` was read; a statement was read that has come to its end.
  BlockOpened : Place → State
  StmtWanted : List T.Stmt → Place → State
  StmtRead : List T.Stmt → Place → State
  -- of a binding: its word, its name, its type
  BindingWord : Introducer → (word : Span) → List T.Stmt → Place → State
  BindingName : Introducer → (word : Span) → Name → List T.Stmt → Place → State
  BindingType : Introducer → (word : Span) → Name → T.TypeExp → List T.Stmt → Place → State
  -- `_` was read, and `return`
  DiscardWord : (word : Span) → List T.Stmt → Place → State
  ReturnWord : (word : Span) → List T.Stmt → Place → State
  -- a block of an `if` was read, which ends there; and the `else` after it
  BranchRead : (from : ℕ) → List T.Branch → (to : ℕ) → List T.Stmt → Place → State
  BranchElse : (from : ℕ) → List T.Branch → List T.Stmt → Place → State
  -- Of expressions: an operand is to come; a postfix expression may go on, whose last step ends there; an operand was read
  -- with its operators before it; the whole was read.
  Operand : Spot → State
  Postfixed : (primary : T.Expr) → List T.Step → (to : ℕ) → Spot → State
  Operated : T.Expr → Tiers → Use → State
  Valued : T.Expr → Use → State
  -- `.` was read
  Dotted : (primary : T.Expr) → List T.Step → Spot → State
  -- in parentheses: the `(` was read, and a part
  PartsOpened : (bracket : Span) → Spot → State
  PartsRead : (bracket : Span) → List T.Expr → Spot → State
  -- of an array: an element
  ElementsRead : (bracket : Span) → List T.Expr → Spot → State
  -- of arguments: the `(` or `[` was read; an argument is to come; a name, which is a label or a value; an argument
  ArgumentsOpened : Callee → Spot → State
  ArgumentWanted : Callee → List T.Arg → Spot → State
  ArgumentName : Callee → List T.Arg → List ℕ → (token : Span) → Spot → State
  ArgumentsRead : Callee → List T.Arg → Spot → State
  -- of `Array<T>()`: the word, the type, the `>`, the `(`
  ArrayWord : (word : Span) → Spot → State
  ArrayType : (word : Span) → T.TypeExp → Spot → State
  ArrayClosed : (word : Span) → T.TypeExp → Spot → State
  ArrayOpened : (word : Span) → T.TypeExp → Spot → State
  -- a value of an `if` was read; and the `else` after it; and the last value is to come
  ChoiceRead : (from : ℕ) → List T.Choice → Spot → State
  ChoiceElse : (from : ℕ) → List T.Choice → Spot → State
  -- Of types: one is to come. Of `Array<T>`: the word, the type. In parentheses: the `(`, a part.
  TypeWanted : TypeUse → State
  ArrayTypeWord : (word : Span) → TypeUse → State
  ArrayTypeElement : (word : Span) → T.TypeExp → TypeUse → State
  TypesOpened : (bracket : Span) → TypeUse → State
  TypesRead : (bracket : Span) → List T.TypeExp → TypeUse → State

-- LEVELS OF NESTING

abbrev pub depth_home : Home → ℕ
depth_home (InFile decls) = 0
depth_home (InOwner owner members) = 1

abbrev pub depth_head : Head → ℕ
depth_head head = depth_home head.home

abbrev pub depth_body : Body → ℕ
depth_body (PlainBody head) = depth_head head
depth_body (VariantBody head brace variants keyword mode value) = depth_head head + 1

abbrev pub depth_place : Place → ℕ
depth_place (InBody body brace) = depth_body body + 1
depth_place (InBranch from branches word condition brace before place) = depth_place place + 1
depth_place (InElse from branches brace before place) = depth_place place + 1
depth_place (InLoop word condition brace before place) = depth_place place + 1

abbrev mutual
  pub depth_use : Use → ℕ
  depth_use (ForTarget before place) = depth_place place
  depth_use (ForBinding introducer word name written before place) = depth_place place
  depth_use (ForAssigned target before place) = depth_place place
  depth_use (ForCompound target operator before place) = depth_place place
  depth_use (ForDiscard word before place) = depth_place place
  depth_use (ForReturn word before place) = depth_place place
  depth_use (ForYield word before place) = depth_place place
  depth_use (ForBranch from branches word before place) = depth_place place
  depth_use (ForLoop word before place) = depth_place place
  depth_use (ForPart bracket es spot) = depth_spot spot + 1
  depth_use (ForElement bracket es spot) = depth_spot spot + 1
  depth_use (ForArgument callee args label spot) = depth_spot spot + 1
  -- so each `if` in a condition is a level of its own
  depth_use (ForCondition from choices word spot) = depth_spot spot + 1
  depth_use (ForChoice from choices word condition spot) = depth_spot spot + 1
  depth_use (ForOtherwise from choices spot) = depth_spot spot + 1

  -- an operand stands in its operators, but for a `&`
  pub depth_spot : Spot → ℕ
  depth_spot (InExpr prefixes tiers u) = depth_use u + length prefixes.operators

abbrev pub depth_type : TypeUse → ℕ
depth_type (ForElementType word u) = depth_type u + 1
depth_type (ForTypePart bracket parts u) = depth_type u + 1
depth_type (ForEmptyArray word spot) = depth_spot spot + 1
depth_type (ForVariable introducer word name before place) = depth_place place
depth_type (ForParam head from label name mode) = depth_head head + 1
depth_type (ForResult head) = depth_head head
depth_type (ForField owner members start name) = 1

-- how many levels are open: parentheses, brackets, braces, `<` of types, operators before an operand, and conditions in an expression
abbrev pub depth : State → ℕ
depth (FileReady decls to) = 0
depth (FileDone decls to) = 0
depth (PublicDecl decls start) = 0
depth (DeclRead decls start kind to) = 0
depth (TypeWord opening) = 0
depth (TypeName opening name) = 0
depth (TraitWord opening) = 0
depth (TraitName opening name) = 0
depth (ConformanceWord opening) = 0
depth (ConformanceName opening name) = 0
depth (TraitWanted opening subject traits) = 0
depth (TraitListed opening subject traits) = 0
depth (MembersReady owner members) = 1
depth (MembersDone owner members) = 1
depth (PublicMember owner members start) = 1
depth (MemberRead owner members start kind to) = 1
depth (FieldWord owner members start) = 1
depth (FieldName owner members start name) = 1
depth (MemberwiseWord owner members start) = 1
depth (FunctionWord home start keyword) = depth_home home
depth (FunctionName head) = depth_head head
depth (SubscriptWord home start keyword) = depth_home home
depth (GenericWanted head) = depth_head head
depth (GenericName head name) = depth_head head
depth (BoundWanted head name bounds) = depth_head head
depth (BoundListed head name bounds) = depth_head head
depth (ParamsWanted head) = depth_head head
depth (ParamsOpened head) = depth_head head + 1
depth (ParamWanted head) = depth_head head + 1
depth (ParamFirst head name) = depth_head head + 1
depth (ParamUnlabelled head from) = depth_head head + 1
depth (ParamName head from label name) = depth_head head + 1
depth (ParamColon head from label name) = depth_head head + 1
depth (ParamRead head) = depth_head head + 1
depth (ParamsRead head to) = depth_head head
depth (EffectRead head to) = depth_head head
depth (ResultRead head to) = depth_head head
depth (BodyWanted body) = depth_body body
depth (BodyOpened head brace) = depth_head head + 1
depth (BodyWord head brace introducer mode word) = depth_head head + 1
depth (VariantsRead head brace variants) = depth_head head + 1
depth (SetWord head brace variants word) = depth_head head + 1
depth (SetOpened head brace variants word) = depth_head head + 2
depth (SetName head brace variants word name) = depth_head head + 2
depth (BlockOpened place) = depth_place place
depth (StmtWanted before place) = depth_place place
depth (StmtRead before place) = depth_place place
depth (BindingWord introducer word before place) = depth_place place
depth (BindingName introducer word name before place) = depth_place place
depth (BindingType introducer word name written before place) = depth_place place
depth (DiscardWord word before place) = depth_place place
depth (ReturnWord word before place) = depth_place place
depth (BranchRead from branches to before place) = depth_place place
depth (BranchElse from branches before place) = depth_place place
depth (Operand spot) = depth_spot spot
depth (Postfixed primary steps to spot) = depth_spot spot
depth (Operated e tiers u) = depth_use u
depth (Valued e u) = depth_use u
depth (Dotted primary steps spot) = depth_spot spot
depth (PartsOpened bracket spot) = depth_spot spot + 1
depth (PartsRead bracket es spot) = depth_spot spot + 1
depth (ElementsRead bracket es spot) = depth_spot spot + 1
depth (ArgumentsOpened callee spot) = depth_spot spot + 1
depth (ArgumentWanted callee args spot) = depth_spot spot + 1
depth (ArgumentName callee args text token spot) = depth_spot spot + 1
depth (ArgumentsRead callee args spot) = depth_spot spot + 1
depth (ArrayWord word spot) = depth_spot spot
depth (ArrayType word written spot) = depth_spot spot + 1
depth (ArrayClosed word written spot) = depth_spot spot
depth (ArrayOpened word written spot) = depth_spot spot + 1
depth (ChoiceRead from choices spot) = depth_spot spot
depth (ChoiceElse from choices spot) = depth_spot spot
depth (TypeWanted u) = depth_type u
depth (ArrayTypeWord word u) = depth_type u
depth (ArrayTypeElement word written u) = depth_type u + 1
depth (TypesOpened bracket u) = depth_type u + 1
depth (TypesRead bracket parts u) = depth_type u + 1

-- whether a `break` or `continue` may stand here: in the body of a loop, at any depth
abbrev pub in_loop : Place → Bool
in_loop (InBody body brace) = false
in_loop (InBranch from branches word condition brace before place) = in_loop place
in_loop (InElse from branches brace before place) = in_loop place
in_loop (InLoop word condition brace before place) = true
