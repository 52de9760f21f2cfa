-- The nodes of a tree: their numbers in preorder, how many there are, and how they are numbered.
use Rattle.std.specs.Prelude.{ℕ, ◌+◌, List, [], ◌∷◌, ◌++◌, Option, Some, None}
use Rattle.std.specs.List.{flat_map}
use Rattle.hy_tree.specs.declared.declaration.TypeParam.{TypeParam}
use Rattle.hy_tree.specs.declared.name.NameUse.{NameUse}
use Rattle.hy_tree.specs.Tree.{At, TypeExp, NamedType, SelfType, ArrayType, TupleType, TypeExps, NoType, ThenType, Expr, Chain, Unary, Marked, Postfix}
use Rattle.hy_tree.specs.Tree.{Number, Truth, Named, SelfValue, EmptyArray, Tuple, Array, IfElse, Exprs, NoExpr, ThenExpr, Links, NoLink, ThenLink, Step}
use Rattle.hy_tree.specs.Tree.{MemberStep, PartStep, CallStep, IndexStep, Steps, NoStep, ThenStep, Args, NoArg, ThenArg, Choices, NoChoice, ThenChoice}
use Rattle.hy_tree.specs.Tree.{Stmt, Binding, Declare, Assign, Compound, Evaluate, If, While, Return, Break, Continue, Yield, Stmts, NoStmt, ThenStmt}
use Rattle.hy_tree.specs.Tree.{Block, Braces, Branches, NoBranch, ThenBranch, Otherwise, NoElse, Else, Param, Variant, Callable, MemberKind, Field}
use Rattle.hy_tree.specs.Tree.{MemberwiseInit, MemberCallable, Member, Product, TraitDef, Conform, DeclKind, DeclCallable, DeclProduct, DeclTrait}
use Rattle.hy_tree.specs.Tree.{DeclConform, Decl, Program}

-- THE NUMBERS OF THE NODES, IN PREORDER

abbrev pub nodes_optional : {A : Type 0} → (A → List ℕ) → Option A → List ℕ
nodes_optional nodes None = []
nodes_optional nodes (Some part) = nodes part

abbrev mutual
  pub nodes_type : TypeExp → List ℕ
  nodes_type (NamedType name at) = at.node ∷ []
  nodes_type (SelfType token at) = at.node ∷ []
  nodes_type (ArrayType element at) = at.node ∷ nodes_type element
  nodes_type (TupleType parts at) = at.node ∷ nodes_types parts

  pub nodes_types : TypeExps → List ℕ
  nodes_types NoType = []
  nodes_types (ThenType written more) = nodes_type written ++ nodes_types more

abbrev mutual
  pub nodes_expr : Expr → List ℕ
  nodes_expr (Chain first links at) = at.node ∷ nodes_expr first ++ nodes_links links
  nodes_expr (Unary operator operand at) = at.node ∷ nodes_expr operand
  nodes_expr (Marked operand at) = at.node ∷ nodes_expr operand
  nodes_expr (Postfix primary steps at) = at.node ∷ nodes_expr primary ++ nodes_steps steps
  nodes_expr (Number number at) = at.node ∷ []
  nodes_expr (Truth truth at) = at.node ∷ []
  nodes_expr (Named name at) = at.node ∷ []
  nodes_expr (SelfValue token at) = at.node ∷ []
  nodes_expr (EmptyArray element at) = at.node ∷ nodes_type element
  nodes_expr (Tuple parts at) = at.node ∷ nodes_exprs parts
  nodes_expr (Array elements at) = at.node ∷ nodes_exprs elements
  nodes_expr (IfElse choices otherwise at) = at.node ∷ nodes_choices choices ++ nodes_expr otherwise

  pub nodes_exprs : Exprs → List ℕ
  nodes_exprs NoExpr = []
  nodes_exprs (ThenExpr e more) = nodes_expr e ++ nodes_exprs more

  pub nodes_links : Links → List ℕ
  nodes_links NoLink = []
  nodes_links (ThenLink operator token operand at more) = at.node ∷ nodes_expr operand ++ nodes_links more

  pub nodes_step : Step → List ℕ
  nodes_step (MemberStep name at) = at.node ∷ []
  nodes_step (PartStep number at) = at.node ∷ []
  nodes_step (CallStep args at) = at.node ∷ nodes_args args
  nodes_step (IndexStep args at) = at.node ∷ nodes_args args

  pub nodes_steps : Steps → List ℕ
  nodes_steps NoStep = []
  nodes_steps (ThenStep step more) = nodes_step step ++ nodes_steps more

  pub nodes_args : Args → List ℕ
  nodes_args NoArg = []
  nodes_args (ThenArg label value more) = nodes_expr value ++ nodes_args more

  pub nodes_choices : Choices → List ℕ
  nodes_choices NoChoice = []
  nodes_choices (ThenChoice token condition value more) = nodes_expr condition ++ nodes_expr value ++ nodes_choices more

abbrev mutual
  pub nodes_stmt : Stmt → List ℕ
  nodes_stmt (Binding introducer name written value at) = at.node ∷ nodes_optional nodes_type written ++ nodes_expr value
  nodes_stmt (Declare name written at) = at.node ∷ nodes_type written
  nodes_stmt (Assign target value at) = at.node ∷ nodes_expr target ++ nodes_expr value
  nodes_stmt (Compound target operator value at) = at.node ∷ nodes_expr target ++ nodes_expr value
  nodes_stmt (Evaluate value at) = at.node ∷ nodes_expr value
  nodes_stmt (If branches otherwise at) = at.node ∷ nodes_branches branches ++ nodes_otherwise otherwise
  nodes_stmt (While token condition body at) = at.node ∷ nodes_expr condition ++ nodes_block body
  nodes_stmt (Return token value at) = at.node ∷ nodes_optional nodes_expr value
  nodes_stmt (Break at) = at.node ∷ []
  nodes_stmt (Continue at) = at.node ∷ []
  nodes_stmt (Yield token value at) = at.node ∷ nodes_expr value

  pub nodes_stmts : Stmts → List ℕ
  nodes_stmts NoStmt = []
  nodes_stmts (ThenStmt stmt more) = nodes_stmt stmt ++ nodes_stmts more

  pub nodes_block : Block → List ℕ
  nodes_block (Braces stmts at) = at.node ∷ nodes_stmts stmts

  pub nodes_branches : Branches → List ℕ
  nodes_branches NoBranch = []
  nodes_branches (ThenBranch token condition body more) = nodes_expr condition ++ nodes_block body ++ nodes_branches more

  pub nodes_otherwise : Otherwise → List ℕ
  nodes_otherwise NoElse = []
  nodes_otherwise (Else block) = nodes_block block

abbrev pub nodes_use : NameUse → List ℕ
nodes_use u = u.node ∷ []

abbrev pub nodes_generic : TypeParam → List ℕ
nodes_generic p = flat_map nodes_use p.bounds

abbrev pub nodes_param : Param → List ℕ
nodes_param p = p.at.node ∷ nodes_type p.written

abbrev pub nodes_variant : Variant → List ℕ
nodes_variant v = v.at.node ∷ nodes_block v.block

abbrev pub nodes_callable : Callable → List ℕ
nodes_callable c =
    c.at.node ∷ flat_map nodes_generic c.generics ++ flat_map nodes_param c.params ++ nodes_optional nodes_type c.result ++ flat_map nodes_variant
    c.variants

abbrev pub nodes_member_kind : MemberKind → List ℕ
nodes_member_kind (Field name written) = nodes_type written
nodes_member_kind MemberwiseInit = []
nodes_member_kind (MemberCallable callable) = nodes_callable callable

abbrev pub nodes_member : Member → List ℕ
nodes_member m = m.at.node ∷ nodes_member_kind m.kind

abbrev pub nodes_product : Product → List ℕ
nodes_product p = p.at.node ∷ flat_map nodes_use p.traits ++ flat_map nodes_member p.members

abbrev pub nodes_trait : TraitDef → List ℕ
nodes_trait t = t.at.node ∷ flat_map nodes_member t.members

abbrev pub nodes_conform : Conform → List ℕ
nodes_conform c = c.at.node ∷ nodes_use c.target ++ flat_map nodes_use c.traits ++ flat_map nodes_member c.members

abbrev pub nodes_decl_kind : DeclKind → List ℕ
nodes_decl_kind (DeclCallable part) = nodes_callable part
nodes_decl_kind (DeclProduct part) = nodes_product part
nodes_decl_kind (DeclTrait part) = nodes_trait part
nodes_decl_kind (DeclConform part) = nodes_conform part

abbrev pub nodes_decl : Decl → List ℕ
nodes_decl d = d.at.node ∷ nodes_decl_kind d.kind

abbrev pub nodes_program : Program → List ℕ
nodes_program p = p.at.node ∷ flat_map nodes_decl p.decls

-- HOW MANY NODES THERE ARE

abbrev pub count_optional : {A : Type 0} → (A → ℕ) → Option A → ℕ
count_optional count None = 0
count_optional count (Some part) = count part

abbrev pub count_all : {A : Type 0} → (A → ℕ) → List A → ℕ
count_all count [] = 0
count_all count (part ∷ more) = count part + count_all count more

abbrev mutual
  pub count_type : TypeExp → ℕ
  count_type (NamedType name at) = 1
  count_type (SelfType token at) = 1
  count_type (ArrayType element at) = 1 + count_type element
  count_type (TupleType parts at) = 1 + count_types parts

  pub count_types : TypeExps → ℕ
  count_types NoType = 0
  count_types (ThenType written more) = count_type written + count_types more

abbrev mutual
  pub count_expr : Expr → ℕ
  count_expr (Chain first links at) = 1 + count_expr first + count_links links
  count_expr (Unary operator operand at) = 1 + count_expr operand
  count_expr (Marked operand at) = 1 + count_expr operand
  count_expr (Postfix primary steps at) = 1 + count_expr primary + count_steps steps
  count_expr (Number number at) = 1
  count_expr (Truth truth at) = 1
  count_expr (Named name at) = 1
  count_expr (SelfValue token at) = 1
  count_expr (EmptyArray element at) = 1 + count_type element
  count_expr (Tuple parts at) = 1 + count_exprs parts
  count_expr (Array elements at) = 1 + count_exprs elements
  count_expr (IfElse choices otherwise at) = 1 + count_choices choices + count_expr otherwise

  pub count_exprs : Exprs → ℕ
  count_exprs NoExpr = 0
  count_exprs (ThenExpr e more) = count_expr e + count_exprs more

  pub count_links : Links → ℕ
  count_links NoLink = 0
  count_links (ThenLink operator token operand at more) = 1 + count_expr operand + count_links more

  pub count_step : Step → ℕ
  count_step (MemberStep name at) = 1
  count_step (PartStep number at) = 1
  count_step (CallStep args at) = 1 + count_args args
  count_step (IndexStep args at) = 1 + count_args args

  pub count_steps : Steps → ℕ
  count_steps NoStep = 0
  count_steps (ThenStep step more) = count_step step + count_steps more

  pub count_args : Args → ℕ
  count_args NoArg = 0
  count_args (ThenArg label value more) = count_expr value + count_args more

  pub count_choices : Choices → ℕ
  count_choices NoChoice = 0
  count_choices (ThenChoice token condition value more) = count_expr condition + count_expr value + count_choices more

abbrev mutual
  pub count_stmt : Stmt → ℕ
  count_stmt (Binding introducer name written value at) = 1 + count_optional count_type written + count_expr value
  count_stmt (Declare name written at) = 1 + count_type written
  count_stmt (Assign target value at) = 1 + count_expr target + count_expr value
  count_stmt (Compound target operator value at) = 1 + count_expr target + count_expr value
  count_stmt (Evaluate value at) = 1 + count_expr value
  count_stmt (If branches otherwise at) = 1 + count_branches branches + count_otherwise otherwise
  count_stmt (While token condition body at) = 1 + count_expr condition + count_block body
  count_stmt (Return token value at) = 1 + count_optional count_expr value
  count_stmt (Break at) = 1
  count_stmt (Continue at) = 1
  count_stmt (Yield token value at) = 1 + count_expr value

  pub count_stmts : Stmts → ℕ
  count_stmts NoStmt = 0
  count_stmts (ThenStmt stmt more) = count_stmt stmt + count_stmts more

  pub count_block : Block → ℕ
  count_block (Braces stmts at) = 1 + count_stmts stmts

  pub count_branches : Branches → ℕ
  count_branches NoBranch = 0
  count_branches (ThenBranch token condition body more) = count_expr condition + count_block body + count_branches more

  pub count_otherwise : Otherwise → ℕ
  count_otherwise NoElse = 0
  count_otherwise (Else block) = count_block block

abbrev pub count_use : NameUse → ℕ
count_use u = 1

abbrev pub count_generic : TypeParam → ℕ
count_generic p = count_all count_use p.bounds

abbrev pub count_param : Param → ℕ
count_param p = 1 + count_type p.written

abbrev pub count_variant : Variant → ℕ
count_variant v = 1 + count_block v.block

abbrev pub count_callable : Callable → ℕ
count_callable c =
    1 + count_all count_generic c.generics + count_all count_param c.params + count_optional count_type c.result + count_all count_variant c.variants

abbrev pub count_member_kind : MemberKind → ℕ
count_member_kind (Field name written) = count_type written
count_member_kind MemberwiseInit = 0
count_member_kind (MemberCallable callable) = count_callable callable

abbrev pub count_member : Member → ℕ
count_member m = 1 + count_member_kind m.kind

abbrev pub count_product : Product → ℕ
count_product p = 1 + count_all count_use p.traits + count_all count_member p.members

abbrev pub count_trait : TraitDef → ℕ
count_trait t = 1 + count_all count_member t.members

abbrev pub count_conform : Conform → ℕ
count_conform c = 1 + count_use c.target + count_all count_use c.traits + count_all count_member c.members

abbrev pub count_decl_kind : DeclKind → ℕ
count_decl_kind (DeclCallable part) = count_callable part
count_decl_kind (DeclProduct part) = count_product part
count_decl_kind (DeclTrait part) = count_trait part
count_decl_kind (DeclConform part) = count_conform part

abbrev pub count_decl : Decl → ℕ
count_decl d = 1 + count_decl_kind d.kind

abbrev pub count_program : Program → ℕ
count_program p = 1 + count_all count_decl p.decls

-- THE SAME TREE WITH ITS NODES NUMBERED FROM n, IN PREORDER

abbrev pub numbered : ℕ → At → At
numbered n at = record { span = at.span; node = n }

abbrev pub number_optional : {A : Type 0} → (ℕ → A → A) → ℕ → Option A → Option A
number_optional number n None = None
number_optional number n (Some part) = Some (number n part)

-- parts that stand one after the other
abbrev pub number_all : {A : Type 0} → (A → ℕ) → (ℕ → A → A) → ℕ → List A → List A
number_all count number n [] = []
number_all count number n (part ∷ more) = number n part ∷ number_all count number (n + count part) more

abbrev mutual
  pub number_type : ℕ → TypeExp → TypeExp
  number_type n (NamedType name at) = NamedType name (numbered n at)
  number_type n (SelfType token at) = SelfType token (numbered n at)
  number_type n (ArrayType element at) = ArrayType (number_type (n + 1) element) (numbered n at)
  number_type n (TupleType parts at) = TupleType (number_types (n + 1) parts) (numbered n at)

  pub number_types : ℕ → TypeExps → TypeExps
  number_types n NoType = NoType
  number_types n (ThenType written more) = ThenType (number_type n written) (number_types (n + count_type written) more)

abbrev mutual
  pub number_expr : ℕ → Expr → Expr
  number_expr n (Chain first links at) = Chain (number_expr (n + 1) first) (number_links (n + 1 + count_expr first) links) (numbered n at)
  number_expr n (Unary operator operand at) = Unary operator (number_expr (n + 1) operand) (numbered n at)
  number_expr n (Marked operand at) = Marked (number_expr (n + 1) operand) (numbered n at)
  number_expr n (Postfix primary steps at) = Postfix (number_expr (n + 1) primary) (number_steps (n + 1 + count_expr primary) steps) (numbered n at)
  number_expr n (Number number at) = Number number (numbered n at)
  number_expr n (Truth truth at) = Truth truth (numbered n at)
  number_expr n (Named name at) = Named name (numbered n at)
  number_expr n (SelfValue token at) = SelfValue token (numbered n at)
  number_expr n (EmptyArray element at) = EmptyArray (number_type (n + 1) element) (numbered n at)
  number_expr n (Tuple parts at) = Tuple (number_exprs (n + 1) parts) (numbered n at)
  number_expr n (Array elements at) = Array (number_exprs (n + 1) elements) (numbered n at)
  number_expr n (IfElse choices otherwise at) = IfElse (number_choices (n + 1) choices) (number_expr (n + 1 + count_choices choices) otherwise) (numbered n at)

  pub number_exprs : ℕ → Exprs → Exprs
  number_exprs n NoExpr = NoExpr
  number_exprs n (ThenExpr e more) = ThenExpr (number_expr n e) (number_exprs (n + count_expr e) more)

  pub number_links : ℕ → Links → Links
  number_links n NoLink = NoLink
  number_links n (ThenLink operator token operand at more) =
      ThenLink operator token (number_expr (n + 1) operand) (numbered n at) (number_links (n + 1 + count_expr operand) more)

  pub number_step : ℕ → Step → Step
  number_step n (MemberStep name at) = MemberStep name (numbered n at)
  number_step n (PartStep number at) = PartStep number (numbered n at)
  number_step n (CallStep args at) = CallStep (number_args (n + 1) args) (numbered n at)
  number_step n (IndexStep args at) = IndexStep (number_args (n + 1) args) (numbered n at)

  pub number_steps : ℕ → Steps → Steps
  number_steps n NoStep = NoStep
  number_steps n (ThenStep step more) = ThenStep (number_step n step) (number_steps (n + count_step step) more)

  pub number_args : ℕ → Args → Args
  number_args n NoArg = NoArg
  number_args n (ThenArg label value more) = ThenArg label (number_expr n value) (number_args (n + count_expr value) more)

  pub number_choices : ℕ → Choices → Choices
  number_choices n NoChoice = NoChoice
  number_choices n (ThenChoice token condition value more) =
      ThenChoice token (number_expr n condition) (number_expr (n + count_expr condition) value)
      (number_choices (n + count_expr condition + count_expr value) more)

abbrev mutual
  pub number_stmt : ℕ → Stmt → Stmt
  number_stmt n (Binding introducer name written value at) =
      Binding introducer name (number_optional number_type (n + 1) written) (number_expr (n + 1 + count_optional count_type written) value) (numbered n at)
  number_stmt n (Declare name written at) = Declare name (number_type (n + 1) written) (numbered n at)
  number_stmt n (Assign target value at) = Assign (number_expr (n + 1) target) (number_expr (n + 1 + count_expr target) value) (numbered n at)
  number_stmt n (Compound target operator value at) =
      Compound (number_expr (n + 1) target) operator (number_expr (n + 1 + count_expr target) value) (numbered n at)
  number_stmt n (Evaluate value at) = Evaluate (number_expr (n + 1) value) (numbered n at)
  number_stmt n (If branches otherwise at) =
      If (number_branches (n + 1) branches) (number_otherwise (n + 1 + count_branches branches) otherwise) (numbered n at)
  number_stmt n (While token condition body at) = While token (number_expr (n + 1) condition)
      (number_block (n + 1 + count_expr condition) body) (numbered n at)
  number_stmt n (Return token value at) = Return token (number_optional number_expr (n + 1) value) (numbered n at)
  number_stmt n (Break at) = Break (numbered n at)
  number_stmt n (Continue at) = Continue (numbered n at)
  number_stmt n (Yield token value at) = Yield token (number_expr (n + 1) value) (numbered n at)

  pub number_stmts : ℕ → Stmts → Stmts
  number_stmts n NoStmt = NoStmt
  number_stmts n (ThenStmt stmt more) = ThenStmt (number_stmt n stmt) (number_stmts (n + count_stmt stmt) more)

  pub number_block : ℕ → Block → Block
  number_block n (Braces stmts at) = Braces (number_stmts (n + 1) stmts) (numbered n at)

  pub number_branches : ℕ → Branches → Branches
  number_branches n NoBranch = NoBranch
  number_branches n (ThenBranch token condition body more) =
      ThenBranch token (number_expr n condition) (number_block (n + count_expr condition) body)
      (number_branches (n + count_expr condition + count_block body) more)

  pub number_otherwise : ℕ → Otherwise → Otherwise
  number_otherwise n NoElse = NoElse
  number_otherwise n (Else block) = Else (number_block n block)

abbrev pub number_use : ℕ → NameUse → NameUse
number_use n u = record { text = u.text; span = u.span; node = n }

abbrev pub number_generic : ℕ → TypeParam → TypeParam
number_generic n p = record { name = p.name; bounds = number_all count_use number_use n p.bounds }

abbrev pub number_param : ℕ → Param → Param
number_param n p = record { label = p.label; name = p.name; mode = p.mode; written = number_type (n + 1) p.written; at = numbered n p.at }

abbrev pub number_variant : ℕ → Variant → Variant
number_variant n v = record { mode = v.mode; keyword = v.keyword; value = v.value; block = number_block (n + 1) v.block; at = numbered n v.at }

abbrev pub number_callable : ℕ → Callable → Callable
number_callable n c =
    let params = n + 1 + count_all count_generic c.generics in
    let result = params + count_all count_param c.params in
    let variants = result + count_optional count_type c.result in
    record {
      kind = c.kind;
      keyword = c.keyword;
      name = c.name;
      generics = number_all count_generic number_generic (n + 1) c.generics;
      params = number_all count_param number_param params c.params;
      effect = c.effect;
      result = number_optional number_type result c.result;
      variants = number_all count_variant number_variant variants c.variants;
      at = numbered n c.at;
    }

abbrev pub number_member_kind : ℕ → MemberKind → MemberKind
number_member_kind n (Field name written) = Field name (number_type n written)
number_member_kind n MemberwiseInit = MemberwiseInit
number_member_kind n (MemberCallable callable) = MemberCallable (number_callable n callable)

abbrev pub number_member : ℕ → Member → Member
number_member n m = record { public = m.public; kind = number_member_kind (n + 1) m.kind; tokens = m.tokens; at = numbered n m.at }

abbrev pub number_product : ℕ → Product → Product
number_product n p = record {
  name = p.name;
  traits = number_all count_use number_use (n + 1) p.traits;
  members = number_all count_member number_member (n + 1 + count_all count_use p.traits) p.members;
  at = numbered n p.at;
}

abbrev pub number_trait : ℕ → TraitDef → TraitDef
number_trait n t = record { name = t.name; members = number_all count_member number_member (n + 1) t.members; at = numbered n t.at }

abbrev pub number_conform : ℕ → Conform → Conform
number_conform n c =
    let traits = n + 1 + count_use c.target in
    record {
      target = number_use (n + 1) c.target;
      traits = number_all count_use number_use traits c.traits;
      members = number_all count_member number_member (traits + count_all count_use c.traits) c.members;
      at = numbered n c.at;
    }

abbrev pub number_decl_kind : ℕ → DeclKind → DeclKind
number_decl_kind n (DeclCallable part) = DeclCallable (number_callable n part)
number_decl_kind n (DeclProduct part) = DeclProduct (number_product n part)
number_decl_kind n (DeclTrait part) = DeclTrait (number_trait n part)
number_decl_kind n (DeclConform part) = DeclConform (number_conform n part)

abbrev pub number_decl : ℕ → Decl → Decl
number_decl n d = record { public = d.public; kind = number_decl_kind (n + 1) d.kind; tokens = d.tokens; at = numbered n d.at }

abbrev pub number_program : Program → Program
number_program p = record { decls = number_all count_decl number_decl 1 p.decls; at = numbered 0 p.at }
