-- The tree of a source, as plain data.
use Rattle.std.specs.Prelude.{ℕ, ℤ, Bool, List, [], ◌∷◌, Option, Some, None}
use Rattle.hy_base.specs.declared.position.Span.{Span}
use Rattle.hy_tree.specs.declared.name.Name.{Name}
use Rattle.hy_tree.specs.declared.name.NameUse.{NameUse}
use Rattle.hy_tree.specs.declared.operator.Mode.{Mode}
use Rattle.hy_tree.specs.declared.operator.Introducer.{Introducer}
use Rattle.hy_tree.specs.declared.operator.Operator.{Operator}
use Rattle.hy_tree.specs.declared.operator.Arithmetic.{Arithmetic}
use Rattle.hy_tree.specs.declared.operator.UnaryOperator.{UnaryOperator}
use Rattle.hy_tree.specs.declared.declaration.CallableKind.{CallableKind}
use Rattle.hy_tree.specs.declared.declaration.Label.{Label}
use Rattle.hy_tree.specs.declared.declaration.TypeParam.{TypeParam}

-- where a node stands, and its number
pub record At : Type 0 where
  pub span : Span
  pub node : ℕ

-- WRITTEN TYPES

mutual
  pub data TypeExp : Type 0 where
    NamedType : (name : Name) → At → TypeExp
    SelfType : (token : Span) → At → TypeExp
    ArrayType : (element : TypeExp) → At → TypeExp
    TupleType : (parts : TypeExps) → At → TypeExp

  pub data TypeExps : Type 0 where
    NoType : TypeExps
    ThenType : TypeExp → TypeExps → TypeExps

abbrev pub types : List TypeExp → TypeExps
types [] = NoType
types (written ∷ more) = ThenType written (types more)

abbrev pub at_type : TypeExp → At
at_type (NamedType name at) = at
at_type (SelfType token at) = at
at_type (ArrayType element at) = at
at_type (TupleType parts at) = at

-- the same type with parentheses around it: they are in its span
abbrev pub enclosed_type : Span → TypeExp → TypeExp
enclosed_type span (NamedType name at) = NamedType name (record { span = span; node = at.node })
enclosed_type span (SelfType token at) = SelfType token (record { span = span; node = at.node })
enclosed_type span (ArrayType element at) = ArrayType element (record { span = span; node = at.node })
enclosed_type span (TupleType parts at) = TupleType parts (record { span = span; node = at.node })

-- EXPRESSIONS

mutual
  pub data Expr : Type 0 where
    Chain : (first : Expr) → (links : Links) → At → Expr
    Unary : UnaryOperator → (operand : Expr) → At → Expr
    Marked : (operand : Expr) → At → Expr
    Postfix : (primary : Expr) → (steps : Steps) → At → Expr
    Number : ℤ → At → Expr
    Truth : Bool → At → Expr
    Named : (name : Name) → At → Expr
    SelfValue : (token : Span) → At → Expr
    EmptyArray : (element : TypeExp) → At → Expr
    Tuple : (parts : Exprs) → At → Expr
    Array : (elements : Exprs) → At → Expr
    IfElse : (choices : Choices) → (otherwise : Expr) → At → Expr

  pub data Exprs : Type 0 where
    NoExpr : Exprs
    ThenExpr : Expr → Exprs → Exprs

  -- operators of a chain, each with its token and its right operand
  pub data Links : Type 0 where
    NoLink : Links
    ThenLink : Operator → (token : Span) → (operand : Expr) → At → Links → Links

  pub data Step : Type 0 where
    MemberStep : (name : Name) → At → Step
    PartStep : ℤ → At → Step
    CallStep : (args : Args) → At → Step
    IndexStep : (args : Args) → At → Step

  pub data Steps : Type 0 where
    NoStep : Steps
    ThenStep : Step → Steps → Steps

  -- arguments, each with its label
  pub data Args : Type 0 where
    NoArg : Args
    ThenArg : (label : Option (List ℕ)) → (value : Expr) → Args → Args

  -- each `if` of an expression with its token, its condition and its value
  pub data Choices : Type 0 where
    NoChoice : Choices
    ThenChoice : (token : Span) → (condition : Expr) → (value : Expr) → Choices → Choices

pub record Link : Type 0 where
  pub operator : Operator
  pub token : Span
  pub operand : Expr
  pub at : At

pub record Arg : Type 0 where
  pub label : Option (List ℕ)
  pub value : Expr

pub record Choice : Type 0 where
  pub token : Span
  pub condition : Expr
  pub value : Expr

abbrev pub exprs : List Expr → Exprs
exprs [] = NoExpr
exprs (e ∷ more) = ThenExpr e (exprs more)

abbrev pub links : List Link → Links
links [] = NoLink
links (link ∷ more) = ThenLink link.operator link.token link.operand link.at (links more)

abbrev pub steps : List Step → Steps
steps [] = NoStep
steps (step ∷ more) = ThenStep step (steps more)

abbrev pub args : List Arg → Args
args [] = NoArg
args (arg ∷ more) = ThenArg arg.label arg.value (args more)

abbrev pub choices : List Choice → Choices
choices [] = NoChoice
choices (choice ∷ more) = ThenChoice choice.token choice.condition choice.value (choices more)

abbrev pub at_expr : Expr → At
at_expr (Chain first links at) = at
at_expr (Unary operator operand at) = at
at_expr (Marked operand at) = at
at_expr (Postfix primary steps at) = at
at_expr (Number number at) = at
at_expr (Truth truth at) = at
at_expr (Named name at) = at
at_expr (SelfValue token at) = at
at_expr (EmptyArray element at) = at
at_expr (Tuple parts at) = at
at_expr (Array elements at) = at
at_expr (IfElse choices otherwise at) = at

-- the same expression with parentheses around it: they are in its span
abbrev pub enclosed : Span → Expr → Expr
enclosed span (Chain first links at) = Chain first links (record { span = span; node = at.node })
enclosed span (Unary operator operand at) = Unary operator operand (record { span = span; node = at.node })
enclosed span (Marked operand at) = Marked operand (record { span = span; node = at.node })
enclosed span (Postfix primary steps at) = Postfix primary steps (record { span = span; node = at.node })
enclosed span (Number number at) = Number number (record { span = span; node = at.node })
enclosed span (Truth truth at) = Truth truth (record { span = span; node = at.node })
enclosed span (Named name at) = Named name (record { span = span; node = at.node })
enclosed span (SelfValue token at) = SelfValue token (record { span = span; node = at.node })
enclosed span (EmptyArray element at) = EmptyArray element (record { span = span; node = at.node })
enclosed span (Tuple parts at) = Tuple parts (record { span = span; node = at.node })
enclosed span (Array elements at) = Array elements (record { span = span; node = at.node })
enclosed span (IfElse choices otherwise at) = IfElse choices otherwise (record { span = span; node = at.node })

abbrev pub at_step : Step → At
at_step (MemberStep name at) = at
at_step (PartStep number at) = at
at_step (CallStep args at) = at
at_step (IndexStep args at) = at

-- STATEMENTS

mutual
  pub data Stmt : Type 0 where
    Binding : Introducer → (name : Name) → (written : Option TypeExp) → (value : Expr) → At → Stmt
    Declare : (name : Name) → (written : TypeExp) → At → Stmt
    Assign : (target : Expr) → (value : Expr) → At → Stmt
    Compound : (target : Expr) → Arithmetic → (value : Expr) → At → Stmt
    Evaluate : Expr → At → Stmt
    If : (branches : Branches) → (otherwise : Otherwise) → At → Stmt
    While : (token : Span) → (condition : Expr) → (body : Block) → At → Stmt
    Return : (token : Span) → (value : Option Expr) → At → Stmt
    Break : At → Stmt
    Continue : At → Stmt
    Yield : (token : Span) → (value : Expr) → At → Stmt

  pub data Stmts : Type 0 where
    NoStmt : Stmts
    ThenStmt : Stmt → Stmts → Stmts

  pub data Block : Type 0 where
    Braces : (stmts : Stmts) → At → Block

  -- each `if` of a statement with its token, its condition and its block
  pub data Branches : Type 0 where
    NoBranch : Branches
    ThenBranch : (token : Span) → (condition : Expr) → (body : Block) → Branches → Branches

  pub data Otherwise : Type 0 where
    NoElse : Otherwise
    Else : Block → Otherwise

pub record Branch : Type 0 where
  pub token : Span
  pub condition : Expr
  pub body : Block

abbrev pub stmts : List Stmt → Stmts
stmts [] = NoStmt
stmts (stmt ∷ more) = ThenStmt stmt (stmts more)

abbrev pub branches : List Branch → Branches
branches [] = NoBranch
branches (branch ∷ more) = ThenBranch branch.token branch.condition branch.body (branches more)

abbrev pub otherwise : Option Block → Otherwise
otherwise None = NoElse
otherwise (Some block) = Else block

abbrev pub at_stmt : Stmt → At
at_stmt (Binding introducer name written value at) = at
at_stmt (Declare name written at) = at
at_stmt (Assign target value at) = at
at_stmt (Compound target operator value at) = at
at_stmt (Evaluate e at) = at
at_stmt (If branches otherwise at) = at
at_stmt (While token condition body at) = at
at_stmt (Return token value at) = at
at_stmt (Break at) = at
at_stmt (Continue at) = at
at_stmt (Yield token value at) = at

abbrev pub at_block : Block → At
at_block (Braces stmts at) = at

-- DECLARATIONS

pub record Param : Type 0 where
  pub label : Label
  pub name : Name
  pub mode : Mode
  pub written : TypeExp
  pub at : At

pub record Variant : Type 0 where
  pub mode : Mode
  pub keyword : Option Span
  pub value : Option Name
  pub block : Block
  pub at : At

pub record Callable : Type 0 where
  pub kind : CallableKind
  pub keyword : Span
  pub name : Option Name
  pub generics : List TypeParam
  pub params : List Param
  pub effect : Option Mode
  pub result : Option TypeExp
  pub variants : List Variant
  pub at : At

pub data MemberKind : Type 0 where
  Field : (name : Name) → (written : TypeExp) → MemberKind
  MemberwiseInit : MemberKind
  MemberCallable : Callable → MemberKind

pub record Member : Type 0 where
  pub public : Bool
  pub kind : MemberKind
  pub tokens : ℕ
  pub at : At

pub record Product : Type 0 where
  pub name : Name
  pub traits : List NameUse
  pub members : List Member
  pub at : At

pub record TraitDef : Type 0 where
  pub name : Name
  pub members : List Member
  pub at : At

pub record Conform : Type 0 where
  pub target : NameUse
  pub traits : List NameUse
  pub members : List Member
  pub at : At

pub data DeclKind : Type 0 where
  DeclCallable : Callable → DeclKind
  DeclProduct : Product → DeclKind
  DeclTrait : TraitDef → DeclKind
  DeclConform : Conform → DeclKind

pub record Decl : Type 0 where
  pub public : Bool
  pub kind : DeclKind
  pub tokens : ℕ
  pub at : At

pub record Program : Type 0 where
  pub decls : List Decl
  pub at : At
