-- From the states within a part its completion leads to the end.
use Rattle.std.proofs.Common.{codes, ◌≡◌, ◌-◌, ℕ, suc, Option, Some, None, Ok, List, [], ◌∷◌, ◌++◌, length, refl, sym, ap, subst, ◌∙◌}
use Rattle.hy_base.specs.declared.position.Span.{Span}
use Rattle.hy_lexer.specs.declared.token.Token.{Token}
use Rattle.hy_lexer.specs.declared.token.TokenKind.{TokenKind}
use Rattle.hy_lexer.specs.declared.token.TokenKind.TheVariants as k
use Rattle.hy_tree.specs.Tree as T
use Rattle.hy_tree.specs.declared.name.Name.{Name}
use Rattle.hy_tree.specs.declared.operator.Arithmetic.{Arithmetic}
use Rattle.hy_tree.specs.declared.operator.Introducer.{Introducer}
use Rattle.hy_tree.specs.declared.operator.Mode.{Mode}
use Rattle.hy_grammar.specs.Kinds.{infix_of, Disjunction}
use Rattle.hy_grammar.specs.Nodes as node
use Rattle.hy_grammar.specs.Completion.{mark, a_name, leave_home, leave_sort, leave_params, leave_head, leave_body, leave_place, closing, a_choice}
use Rattle.hy_grammar.specs.Completion.{leave_use, leave_spot, leave_type}
use Rattle.hy_grammar.specs.DeclSteps.{decl_of, owner_read, member_of, method_body, body_opened}
use Rattle.hy_grammar.specs.ExprSteps.{operand_of, joined, with_arguments, callee}
use Rattle.hy_grammar.specs.Machine.{step, finish, run}
use Rattle.hy_grammar.specs.OperandSteps.{beginning}
use Rattle.hy_grammar.specs.StmtSteps.{callable_of, called_in, bodied, close}
use Rattle.hy_grammar.specs.TypeSteps.{with_result, typed}
use Rattle.hy_grammar.specs.Stack.{Start, Owner, Home, Sort, Head, Body, Prefixes, Tiers, Brackets, Callee, Place, Use, Spot, TypeUse, State, TraitOwner}
use Rattle.hy_grammar.specs.Stack.{ListedOwner, InFile, InOwner, FileFunction, Method, Requirement, Subscript, Deinit, PlainBody, VariantBody, Round}
use Rattle.hy_grammar.specs.Stack.{Square, InBody, InBranch, InElse, InLoop, ForTarget, ForBinding, ForAssigned, ForCompound, ForDiscard, ForReturn}
use Rattle.hy_grammar.specs.Stack.{ForYield, ForBranch, ForLoop, ForPart, ForElement, ForArgument, ForCondition, ForChoice, ForOtherwise, InExpr}
use Rattle.hy_grammar.specs.Stack.{ForElementType, ForTypePart, ForEmptyArray, ForVariable, ForParam, ForResult, ForField, FileReady, FileDone, DeclRead}
use Rattle.hy_grammar.specs.Stack.{MembersReady, MembersDone, MemberRead, ParamsOpened, ParamRead, ParamsRead, EffectRead, ResultRead, BodyOpened}
use Rattle.hy_grammar.specs.Stack.{VariantsRead, BlockOpened, StmtRead, BindingType, BranchRead, Operand, Postfixed, Valued, ArgumentsRead, ArrayType}
use Rattle.hy_grammar.specs.Stack.{ArrayClosed, ArrayOpened, ChoiceRead, ChoiceElse, TypeWanted, ArrayTypeElement, TypesRead}
use Rattle.hy_grammar_laws.proofs.Runs.{moves, alike, ends}

module _ (total : ℕ) where
  abbrev pub Done : State → List Token → Type 0
  Done s ts = (tree : T.Program) × (run total s ts ≡ Ok tree)

  pub over : (s s' : State) (t : Token) (ts : List Token) → step s t (total - suc (length ts)) ≡ Some s' → Done s' ts → Done s (t ∷ ts)
  over s s' t ts h d = (d.0, moves total s s' t ts h ∙ d.1)

  pub like : (s s' : State) (t : Token) (ts : List Token) → step s t (total - suc (length ts)) ≡ step s' t (total - suc (length ts)) → Done s' (t ∷ ts)
      → Done s (t ∷ ts)
  like s s' t ts h d = (d.0, alike total s s' t ts h ∙ d.1)

  -- DECLARATIONS AND MEMBERS

  pub decl_done : (decls : List T.Decl) (start : Start) (kind : T.DeclKind) (to : ℕ) → Done (DeclRead decls start kind to) []
  unfolding finish
  decl_done decls start kind to = (_, ends total _ _ refl)

  pub file_done : (decls : List T.Decl) (to : ℕ) → Done (FileReady decls to) []
  unfolding finish
  file_done decls to = (_, ends total _ _ refl)

  pub file_ended : (decls : List T.Decl) (to : ℕ) → Done (FileDone decls to) []
  unfolding finish
  file_ended decls to = (_, ends total _ _ refl)

  pub owner_done : (owner : Owner) (members : List T.Member) (close : Span) → Done (owner_read owner members close) []
  owner_done (TraitOwner o name) members close = decl_done _ _ _ _
  owner_done (ListedOwner o subject traits) members close = decl_done _ _ _ _

  pub member_done : (owner : Owner) (members : List T.Member) (start : Start) (kind : T.MemberKind) (to : ℕ)
      → Done (MemberRead owner members start kind to) (mark k.RightBrace ∷ [])
  unfolding step
  member_done owner members start kind to = over _ _ _ _ refl (owner_done owner _ _)

  pub members_done : (owner : Owner) (members : List T.Member) → Done (MembersReady owner members) (mark k.RightBrace ∷ [])
  unfolding step
  members_done owner members = over _ _ _ _ refl (owner_done owner members _)

  pub members_ended : (owner : Owner) (members : List T.Member) → Done (MembersDone owner members) (mark k.RightBrace ∷ [])
  unfolding step
  members_ended owner members = over _ _ _ _ refl (owner_done owner members _)

  pub called_done : (home : Home) (head : Head) (variants : List T.Variant) (to : ℕ) → Done (called_in home head variants to) (leave_home home)
  unfolding leave_home
  called_done (InFile decls) head variants to = decl_done _ _ _ _
  called_done (InOwner owner members) head variants to = member_done _ _ _ _ _

  pub variants_done : (head : Head) (brace : Span) (variants : List T.Variant)
      → Done (VariantsRead head brace variants) (mark k.RightBrace ∷ leave_home head.home)
  unfolding step
  variants_done head brace variants = over _ _ _ _ refl (called_done head.home head variants _)

  pub body_done : (body : Body) (block : T.Block) → Done (bodied block body) (leave_body body)
  unfolding leave_body
  body_done (PlainBody head) block = called_done head.home head _ _
  body_done (VariantBody head brace variants keyword mode value) block = variants_done head brace _

  -- STATEMENTS

  -- what goes on at a brace as after a statement
  abbrev pub LikeRead : State → List T.Stmt → Place → Type 0
  LikeRead s ss place = (n : ℕ) → step s (mark k.RightBrace) n ≡ step (StmtRead ss place) (mark k.RightBrace) n

  pub like_read : (ss : List T.Stmt) (place : Place) → LikeRead (StmtRead ss place) ss place
  like_read ss place n = refl

  pub branch_like : (from : ℕ) (branches : List T.Branch) (to : ℕ) (before : List T.Stmt) (place : Place)
      → LikeRead (BranchRead from branches to before place) (before ++ node.if_only from branches to ∷ []) place
  unfolding step
  branch_like from branches to before place n = refl

  pub to_body : (s : State) (ss : List T.Stmt) (body : Body) (brace : Span) (ts : List Token) → LikeRead s ss (InBody body brace)
      → Done (bodied (node.block brace ss (mark k.RightBrace).span) body) ts → Done s (mark k.RightBrace ∷ ts)
  unfolding step
  to_body s ss body brace ts l d = over _ _ _ _ (l _) d

  pub to_branch : (s : State) (ss : List T.Stmt) (from : ℕ) (branches : List T.Branch) (word : Span) (condition : T.Expr) (brace : Span)
      (before : List T.Stmt) (place : Place) (ts : List Token)
      → LikeRead s ss (InBranch from branches word condition brace before place)
      → Done (BranchRead from (branches ++ node.branch word condition (node.block brace ss (mark k.RightBrace).span) ∷ [])
      (node.block_to (node.block brace ss (mark k.RightBrace).span)) before place) ts → Done s (mark k.RightBrace ∷ ts)
  unfolding step
  to_branch s ss from branches word condition brace before place ts l d = over _ _ _ _ (l _) d

  pub to_else : (s : State) (ss : List T.Stmt) (from : ℕ) (branches : List T.Branch) (brace : Span) (before : List T.Stmt) (place : Place) (ts : List Token)
      → LikeRead s ss (InElse from branches brace before place)
      → Done (StmtRead (before ++ node.if_block from branches (node.block brace ss (mark k.RightBrace).span) ∷ []) place) ts → Done s (mark k.RightBrace ∷ ts)
  unfolding step
  to_else s ss from branches brace before place ts l d = over _ _ _ _ (l _) d

  pub to_loop : (s : State) (ss : List T.Stmt) (word : Span) (condition : T.Expr) (brace : Span) (before : List T.Stmt) (place : Place) (ts : List Token)
      → LikeRead s ss (InLoop word condition brace before place)
      → Done (StmtRead (before ++ node.while word condition (node.block brace ss (mark k.RightBrace).span) ∷ []) place) ts → Done s (mark k.RightBrace ∷ ts)
  unfolding step
  to_loop s ss word condition brace before place ts l d = over _ _ _ _ (l _) d

  pub closes : (place : Place) (s : State) (ss : List T.Stmt) → LikeRead s ss place → Done s (leave_place place)
  unfolding leave_place
  closes (InBody body brace) s ss l = to_body s ss body brace _ l (body_done body _)
  closes (InBranch from branches word condition brace before place) s ss l =
      to_branch s ss from branches word condition brace before place _ l (closes place _ _ (branch_like _ _ _ _ place))
  closes (InElse from branches brace before place) s ss l = to_else s ss from branches brace before place _ l (closes place _ _ (like_read _ place))
  closes (InLoop word condition brace before place) s ss l = to_loop s ss word condition brace before place _ l (closes place _ _ (like_read _ place))

  -- EXPRESSIONS

  -- At a token of this kind a postfix expression ends, and with it the whole.
  abbrev pub Ends : TokenKind → Type 0
  Ends kind = (primary : T.Expr) (steps : List T.Step) (to : ℕ) (prefixes : Prefixes) (tiers : Tiers) (u : Use) (n : ℕ)
      → step (Postfixed primary steps to (InExpr prefixes tiers u)) (mark kind) n ≡ step
      (Valued (joined Disjunction (operand_of prefixes (node.postfix primary steps to)) tiers) u) (mark kind) n

  pub brace_ends : Ends k.RightBrace
  unfolding step
  brace_ends primary steps to prefixes tiers u n = refl

  pub block_ends : Ends k.LeftBrace
  unfolding step
  block_ends primary steps to prefixes tiers u n = refl

  pub paren_ends : Ends k.RightParen
  unfolding step
  paren_ends primary steps to prefixes tiers u n = refl

  pub bracket_ends : Ends k.RightBracket
  unfolding step
  bracket_ends primary steps to prefixes tiers u n = refl

  -- the tokens begin with one at which an expression ends
  pub record Begins (ts : List Token) : Type 0 where
    pub kind : TokenKind
    pub more : List Token
    pub are : ts ≡ mark kind ∷ more
    pub ends_there : Ends kind
    pub no_operator : infix_of kind ≡ None

  pub begins_place : (place : Place) → Begins (leave_place place)
  unfolding leave_place
  begins_place (InBody body brace) = record { kind = k.RightBrace; more = _; are = refl; ends_there = brace_ends; no_operator = refl }
  begins_place (InBranch from branches word condition brace before place) =
      record { kind = k.RightBrace; more = _; are = refl; ends_there = brace_ends; no_operator = refl }
  begins_place (InElse from branches brace before place) = record { kind = k.RightBrace; more = _; are = refl; ends_there = brace_ends; no_operator = refl }
  begins_place (InLoop word condition brace before place) = record { kind = k.RightBrace; more = _; are = refl; ends_there = brace_ends; no_operator = refl }

  pub begins_closing : (brackets : Brackets) (ts : List Token) → Begins (closing brackets ∷ ts)
  begins_closing Round ts = record { kind = k.RightParen; more = ts; are = refl; ends_there = paren_ends; no_operator = refl }
  begins_closing Square ts = record { kind = k.RightBracket; more = ts; are = refl; ends_there = bracket_ends; no_operator = refl }

  pub begins_use : (u : Use) → Begins (leave_use u)
  unfolding leave_use
  begins_use (ForTarget before place) = begins_place place
  begins_use (ForBinding introducer word name written before place) = begins_place place
  begins_use (ForAssigned target before place) = begins_place place
  begins_use (ForCompound target operator before place) = begins_place place
  begins_use (ForDiscard word before place) = begins_place place
  begins_use (ForReturn word before place) = begins_place place
  begins_use (ForYield word before place) = begins_place place
  begins_use (ForBranch from branches word before place) = record { kind = k.LeftBrace; more = _; are = refl; ends_there = block_ends; no_operator = refl }
  begins_use (ForLoop word before place) = record { kind = k.LeftBrace; more = _; are = refl; ends_there = block_ends; no_operator = refl }
  begins_use (ForPart bracket es spot) = record { kind = k.RightParen; more = _; are = refl; ends_there = paren_ends; no_operator = refl }
  begins_use (ForElement bracket es spot) = record { kind = k.RightBracket; more = _; are = refl; ends_there = bracket_ends; no_operator = refl }
  begins_use (ForArgument callee args label spot) = begins_closing callee.brackets _
  begins_use (ForCondition from choices word spot) = record { kind = k.LeftBrace; more = _; are = refl; ends_there = block_ends; no_operator = refl }
  begins_use (ForChoice from choices word condition spot) = record { kind = k.RightBrace; more = _; are = refl; ends_there = brace_ends; no_operator = refl }
  begins_use (ForOtherwise from choices spot) = record { kind = k.RightBrace; more = _; are = refl; ends_there = brace_ends; no_operator = refl }

  pub to_valued : (primary : T.Expr) (steps : List T.Step) (to : ℕ) (prefixes : Prefixes) (tiers : Tiers) (u : Use) (ts : List Token) → Begins ts
      → Done (Valued (joined Disjunction (operand_of prefixes (node.postfix primary steps to)) tiers) u) ts
      → Done (Postfixed primary steps to (InExpr prefixes tiers u)) ts
  to_valued primary steps to prefixes tiers u ts b d =
      let e = b.are in
      let d' : Done (Valued (joined Disjunction (operand_of prefixes (node.postfix primary steps to)) tiers) u) (mark b.kind ∷ b.more) =
      (d.0, sym (ap (run total _) e) ∙ d.1) in
      let l = like (Postfixed primary steps to (InExpr prefixes tiers u)) _ (mark b.kind) b.more (b.ends_there primary steps to prefixes tiers u _) d' in
      (l.0, ap (run total _) e ∙ l.1)

  -- all that is after the value of an operand of this spot
  abbrev pub Leaves : Spot → Type 0
  Leaves spot = (primary : T.Expr) (steps : List T.Step) (to : ℕ) → Done (Postfixed primary steps to spot) (leave_spot spot)

  pub part_done : (e : T.Expr) (bracket : Span) (es : List T.Expr) (spot : Spot) (ts : List Token)
      → ((primary : T.Expr) → Done (Postfixed primary [] 0 spot) ts) → Done (Valued e (ForPart bracket es spot)) (mark k.RightParen ∷ ts)
  unfolding step
  part_done e bracket es spot ts d = over _ _ _ _ refl (d _)

  pub element_done : (e : T.Expr) (bracket : Span) (es : List T.Expr) (spot : Spot) (ts : List Token)
      → ((primary : T.Expr) → Done (Postfixed primary [] 0 spot) ts) → Done (Valued e (ForElement bracket es spot)) (mark k.RightBracket ∷ ts)
  unfolding step
  element_done e bracket es spot ts d = over _ _ _ _ refl (d _)

  -- arguments that are read
  pub arguments_done : (brackets : Brackets) (callee : Callee) (args : List T.Arg) (spot : Spot) → callee.brackets ≡ brackets → Leaves spot
      → Done (ArgumentsRead callee args spot) (closing brackets ∷ leave_spot spot)
  unfolding step
  arguments_done Round callee args spot h d = over _ (with_arguments callee args (mark k.RightParen).span spot) _ _ (rw (h, step) refl) (d _ _ _)
  arguments_done Square callee args spot h d = over _ (with_arguments callee args (mark k.RightBracket).span spot) _ _ (rw (h, step) refl) (d _ _ _)

  pub argument_like : (e : T.Expr) (callee : Callee) (args : List T.Arg) (label : Option (List ℕ)) (spot : Spot) (t : Token) (n : ℕ)
      → step (Valued e (ForArgument callee args label spot)) t n ≡ step (ArgumentsRead callee (args ++ node.arg label e ∷ []) spot) t n
  unfolding step
  argument_like e callee args label spot t n = refl

  pub argument_done : (e : T.Expr) (callee : Callee) (args : List T.Arg) (label : Option (List ℕ)) (spot : Spot) → Leaves spot
      → Done (Valued e (ForArgument callee args label spot)) (closing callee.brackets ∷ leave_spot spot)
  argument_done e callee args label spot d = like _ _ _ _ (argument_like e callee args label spot _ _) (arguments_done callee.brackets callee _ spot refl d)

  -- the values of an `if`
  pub last_done : (e : T.Expr) (from : ℕ) (choices : List T.Choice) (spot : Spot) → Leaves spot
      → Done (Valued e (ForOtherwise from choices spot)) (mark k.RightBrace ∷ leave_spot spot)
  unfolding step
  last_done e from choices spot d = over _ _ _ _ refl (d _ _ _)

  -- a name where a value is wanted, that ends at the next token
  pub name_done : (u : Use) (ts : List Token) → Begins ts → ((e : T.Expr) → Done (Valued e u) ts) → Done (Operand (beginning u)) (a_name ∷ ts)
  unfolding step
  name_done u ts b d = over _ _ _ _ refl (to_valued _ _ _ _ _ u ts b (d _))

  pub before_brace : (ts : List Token) → Begins (mark k.RightBrace ∷ ts)
  before_brace ts = record { kind = k.RightBrace; more = ts; are = refl; ends_there = brace_ends; no_operator = refl }

  pub otherwise_done : (from : ℕ) (choices : List T.Choice) (spot : Spot) → Leaves spot
      → Done (ChoiceElse from choices spot) (mark k.LeftBrace ∷ a_name ∷ mark k.RightBrace ∷ leave_spot spot)
  unfolding step
  otherwise_done from choices spot d = over _ _ _ _ refl (name_done _ _ (before_brace _) (λ e. last_done e from choices spot d))

  pub choices_done : (from : ℕ) (choices : List T.Choice) (spot : Spot) → Leaves spot → Done (ChoiceRead from choices spot) (a_choice (leave_spot spot))
  unfolding step
  choices_done from choices spot d = over _ _ _ _ refl (otherwise_done from choices spot d)

  pub choice_done : (e : T.Expr) (from : ℕ) (choices : List T.Choice) (word : Span) (condition : T.Expr) (spot : Spot) → Leaves spot
      → Done (Valued e (ForChoice from choices word condition spot)) (mark k.RightBrace ∷ a_choice (leave_spot spot))
  unfolding step
  choice_done e from choices word condition spot d = over _ _ _ _ refl (choices_done from _ spot d)

  pub condition_done : (e : T.Expr) (from : ℕ) (choices : List T.Choice) (word : Span) (spot : Spot) → Leaves spot
      → Done (Valued e (ForCondition from choices word spot)) (mark k.LeftBrace ∷ a_name ∷ mark k.RightBrace ∷ a_choice (leave_spot spot))
  unfolding step
  condition_done e from choices word spot d = over _ _ _ _ refl (name_done _ _ (before_brace _) (λ v. choice_done v from choices word e spot d))

  -- an empty block after a condition
  pub branch_done : (e : T.Expr) (from : ℕ) (branches : List T.Branch) (word : Span) (before : List T.Stmt) (place : Place)
      → Done (Valued e (ForBranch from branches word before place)) (mark k.LeftBrace ∷ mark k.RightBrace ∷ leave_place place)
  unfolding step
  branch_done e from branches word before place =
      over _ (BlockOpened (InBranch from branches word e (mark k.LeftBrace).span before place)) _ _ refl
      (over _ _ _ _ refl
      (closes place _ _ (branch_like from (branches ++ node.branch word e (node.block (mark k.LeftBrace).span [] (mark k.RightBrace).span) ∷ []) _ before
      place)))

  pub loop_done : (e : T.Expr) (word : Span) (before : List T.Stmt) (place : Place)
      → Done (Valued e (ForLoop word before place)) (mark k.LeftBrace ∷ mark k.RightBrace ∷ leave_place place)
  unfolding step
  loop_done e word before place =
      over _ (BlockOpened (InLoop word e (mark k.LeftBrace).span before place)) _ _ refl
      (over _ _ _ _ refl
      (closes place _ _ (like_read (before ++ node.while word e (node.block (mark k.LeftBrace).span [] (mark k.RightBrace).span) ∷ []) place)))

  pub target_like : (e : T.Expr) (before : List T.Stmt) (place : Place) → LikeRead (Valued e (ForTarget before place)) (before ++ node.evaluate e ∷ []) place
  unfolding step
  target_like e before place n = refl

  pub binding_like : (e : T.Expr) (introducer : Introducer) (word : Span) (name : Name) (written : Option T.TypeExp) (before : List T.Stmt) (place : Place)
      → LikeRead (Valued e (ForBinding introducer word name written before place)) (before ++ node.binding introducer word name written e ∷ []) place
  unfolding step
  binding_like e introducer word name written before place n = refl

  pub assigned_like : (e target : T.Expr) (before : List T.Stmt) (place : Place)
      → LikeRead (Valued e (ForAssigned target before place)) (before ++ node.assign target e ∷ []) place
  unfolding step
  assigned_like e target before place n = refl

  pub compound_like : (e target : T.Expr) (operator : Arithmetic) (before : List T.Stmt) (place : Place)
      → LikeRead (Valued e (ForCompound target operator before place)) (before ++ node.compound target operator e ∷ []) place
  unfolding step
  compound_like e target operator before place n = refl

  pub discard_like : (e : T.Expr) (word : Span) (before : List T.Stmt) (place : Place)
      → LikeRead (Valued e (ForDiscard word before place)) (before ++ node.discard word e ∷ []) place
  unfolding step
  discard_like e word before place n = refl

  pub return_like : (e : T.Expr) (word : Span) (before : List T.Stmt) (place : Place)
      → LikeRead (Valued e (ForReturn word before place)) (before ++ node.return_value word e ∷ []) place
  unfolding step
  return_like e word before place n = refl

  pub yield_like : (e : T.Expr) (word : Span) (before : List T.Stmt) (place : Place)
      → LikeRead (Valued e (ForYield word before place)) (before ++ node.yield_value word e ∷ []) place
  unfolding step
  yield_like e word before place n = refl

  mutual
    unfolding leave_use leave_spot

    pub leaves_use : (u : Use) (e : T.Expr) → Done (Valued e u) (leave_use u)
    leaves_use (ForTarget before place) e = closes place _ _ (target_like e before place)
    leaves_use (ForBinding introducer word name written before place) e = closes place _ _ (binding_like e introducer word name written before place)
    leaves_use (ForAssigned target before place) e = closes place _ _ (assigned_like e target before place)
    leaves_use (ForCompound target operator before place) e = closes place _ _ (compound_like e target operator before place)
    leaves_use (ForDiscard word before place) e = closes place _ _ (discard_like e word before place)
    leaves_use (ForReturn word before place) e = closes place _ _ (return_like e word before place)
    leaves_use (ForYield word before place) e = closes place _ _ (yield_like e word before place)
    leaves_use (ForBranch from branches word before place) e = branch_done e from branches word before place
    leaves_use (ForLoop word before place) e = loop_done e word before place
    leaves_use (ForPart bracket es spot) e = part_done e bracket es spot _ (λ primary. leaves spot primary [] 0)
    leaves_use (ForElement bracket es spot) e = element_done e bracket es spot _ (λ primary. leaves spot primary [] 0)
    leaves_use (ForArgument callee args label spot) e = argument_done e callee args label spot (leaves spot)
    leaves_use (ForCondition from choices word spot) e = condition_done e from choices word spot (leaves spot)
    leaves_use (ForChoice from choices word condition spot) e = choice_done e from choices word condition spot (leaves spot)
    leaves_use (ForOtherwise from choices spot) e = last_done e from choices spot (leaves spot)

    pub leaves : (spot : Spot) (primary : T.Expr) (steps : List T.Step) (to : ℕ) → Done (Postfixed primary steps to spot) (leave_spot spot)
    leaves (InExpr prefixes tiers u) primary steps to = to_valued primary steps to prefixes tiers u (leave_use u) (begins_use u) (leaves_use u _)

  pub a_value : (u : Use) → Done (Operand (beginning u)) (a_name ∷ leave_use u)
  a_value u = name_done u (leave_use u) (begins_use u) (leaves_use u)

  pub operand_done : (spot : Spot) → Done (Operand spot) (a_name ∷ leave_spot spot)
  unfolding step
  operand_done spot = over _ _ _ _ refl (leaves spot (node.named (codes "x") a_name.span) [] 0)

  -- HEADS

  pub block_done : (body : Body) (brace : Span) → Done (BlockOpened (InBody body brace)) (mark k.RightBrace ∷ leave_body body)
  unfolding step
  block_done body brace = over _ _ _ _ refl (body_done body _)

  pub opened_done : (head : Head) (brace : Span) → Done (BodyOpened head brace) (mark k.RightBrace ∷ leave_home head.home)
  unfolding step leave_body
  opened_done head brace = over _ _ _ _ refl (body_done (PlainBody head) (node.block brace [] (mark k.RightBrace).span))

  pub plain_done : (head : Head) (brace : Span) → Done (BlockOpened (InBody (PlainBody head) brace)) (mark k.RightBrace ∷ leave_home head.home)
  unfolding leave_body
  plain_done head brace = block_done (PlainBody head) brace

  -- the body of each sort
  pub method_body_done : (effect : Option Mode) (head : Head) (brace : Span) → Done (method_body effect head brace) (mark k.RightBrace ∷ leave_home head.home)
  method_body_done None head brace = opened_done head brace
  method_body_done (Some mode) head brace = plain_done head brace

  pub body_opened_done : (sort : Sort) (head : Head) (brace : Span) → Done (body_opened sort head brace) (mark k.RightBrace ∷ leave_home head.home)
  body_opened_done FileFunction head brace = plain_done head brace
  body_opened_done Method head brace = method_body_done head.effect head brace
  body_opened_done Requirement head brace = plain_done head brace
  body_opened_done Subscript head brace = opened_done head brace
  body_opened_done Deinit head brace = plain_done head brace

  -- what a state does at the tokens in place of the body
  pub record Bodies (s : State) (head : Head) : Type 0 where
    pub body : (sort : Sort) → head.sort ≡ sort → (sort ≡ Requirement → ⊥) → (n : ℕ)
        → step s (mark k.LeftBrace) n ≡ Some (body_opened sort head (mark k.LeftBrace).span)
    pub file : head.sort ≡ Requirement → (decls : List T.Decl) → head.home ≡ InFile decls → (n : ℕ) → (decls' : List T.Decl)
        × (step s (mark k.Semicolon) n ≡ Some (FileReady decls' 0))
    pub owner : head.sort ≡ Requirement → (owner : Owner) (members : List T.Member) → head.home ≡ InOwner owner members → (n : ℕ)
        → (members' : List T.Member) × (step s (mark k.Semicolon) n ≡ Some (MembersReady owner members'))

  pub requirement_done : (home : Home) (s : State) (head : Head) → Bodies s head → head.sort ≡ Requirement → head.home ≡ home
      → Done s (mark k.Semicolon ∷ leave_home home)
  unfolding leave_home
  requirement_done (InFile decls) s head b h e = let w = b.file h decls e (total - 1) in over _ _ _ _ w.1 (file_done _ _)
  requirement_done (InOwner owner members) s head b h e = let w = b.owner h owner members e (total - 2) in over _ _ _ _ w.1 (members_done owner _)

  pub sort_done : (sort : Sort) (s : State) (head : Head) → Bodies s head → head.sort ≡ sort → Done s (leave_sort sort head.home)
  unfolding leave_sort
  sort_done Requirement s head b h = requirement_done head.home s head b h refl
  sort_done FileFunction s head b h = over _ _ _ _ (b.body FileFunction h (λ e. cc) _) (body_opened_done FileFunction head _)
  sort_done Method s head b h = over _ _ _ _ (b.body Method h (λ e. cc) _) (body_opened_done Method head _)
  sort_done Subscript s head b h = over _ _ _ _ (b.body Subscript h (λ e. cc) _) (body_opened_done Subscript head _)
  sort_done Deinit s head b h = over _ _ _ _ (b.body Deinit h (λ e. cc) _) (body_opened_done Deinit head _)

  pub result_body : (head : Head) (to : ℕ) (sort : Sort) → head.sort ≡ sort → (sort ≡ Requirement → ⊥) → (n : ℕ)
      → step (ResultRead head to) (mark k.LeftBrace) n ≡ Some (body_opened sort head (mark k.LeftBrace).span)
  unfolding step
  result_body head to FileFunction h r n = rw (h, step) refl
  result_body head to Method h r n = rw (h, step) refl
  result_body head to Requirement h r n = absurd (r refl)
  result_body head to Subscript h r n = rw (h, step) refl
  result_body head to Deinit h r n = rw (h, step) refl

  pub result_bodies : (head : Head) (to : ℕ) → Bodies (ResultRead head to) head
  unfolding step
  result_bodies head to = record {
    body = result_body head to;
    file = λ h decls e n. (decls ++ decl_of head.start (T.DeclCallable (callable_of head [] to)) n to ∷ [], rw (h, e, step) refl);
    owner = λ h o members e n. (members ++ member_of head.start (T.MemberCallable (callable_of head [] to)) n to ∷ [], rw (h, e, step) refl);
  }

  pub result_done : (head : Head) (to : ℕ) → Done (ResultRead head to) (leave_sort head.sort head.home)
  result_done head to = sort_done head.sort (ResultRead head to) head (result_bodies head to) refl

  pub effect_brace : (head : Head) (to n : ℕ) → step (EffectRead head to) (mark k.LeftBrace) n ≡ step (ResultRead head to) (mark k.LeftBrace) n
  unfolding step
  effect_brace head to n = refl

  pub effect_semicolon : (head : Head) (to n : ℕ) → step (EffectRead head to) (mark k.Semicolon) n ≡ step (ResultRead head to) (mark k.Semicolon) n
  unfolding step
  effect_semicolon head to n = refl

  -- states that go on alike in place of a body
  pub sort_like : (sort : Sort) (home : Home) (s s' : State) → ((n : ℕ) → step s (mark k.LeftBrace) n ≡ step s' (mark k.LeftBrace) n)
      → ((n : ℕ) → step s (mark k.Semicolon) n ≡ step s' (mark k.Semicolon) n)
      → Done s' (leave_sort sort home) → Done s (leave_sort sort home)
  unfolding leave_sort
  sort_like FileFunction home s s' f g d = like _ _ _ _ (f _) d
  sort_like Method home s s' f g d = like _ _ _ _ (f _) d
  sort_like Requirement home s s' f g d = like _ _ _ _ (g _) d
  sort_like Subscript home s s' f g d = like _ _ _ _ (f _) d
  sort_like Deinit home s s' f g d = like _ _ _ _ (f _) d

  pub effect_done : (head : Head) (to : ℕ) → Done (EffectRead head to) (leave_sort head.sort head.home)
  effect_done head to = sort_like head.sort head.home _ _ (effect_brace head to) (effect_semicolon head to) (result_done head to)

  pub params_brace : (sort : Sort) (head : Head) (to : ℕ) → head.sort ≡ sort → (sort ≡ Subscript → ⊥) → (n : ℕ)
      → step (ParamsRead head to) (mark k.LeftBrace) n ≡ step (ResultRead head to) (mark k.LeftBrace) n
  unfolding step
  params_brace FileFunction head to h r n = rw (h, step) refl
  params_brace Method head to h r n = rw (h, step) refl
  params_brace Requirement head to h r n = rw (h, step) refl
  params_brace Subscript head to h r n = absurd (r refl)
  params_brace Deinit head to h r n = rw (h, step) refl

  pub params_semicolon : (sort : Sort) (head : Head) (to : ℕ) → head.sort ≡ sort → (sort ≡ Subscript → ⊥) → (n : ℕ)
      → step (ParamsRead head to) (mark k.Semicolon) n ≡ step (ResultRead head to) (mark k.Semicolon) n
  unfolding step
  params_semicolon FileFunction head to h r n = rw (h, step) refl
  params_semicolon Method head to h r n = rw (h, step) refl
  params_semicolon Requirement head to h r n = rw (h, step) refl
  params_semicolon Subscript head to h r n = absurd (r refl)
  params_semicolon Deinit head to h r n = rw (h, step) refl

  pub params_other : (sort : Sort) (head : Head) (to : ℕ) → head.sort ≡ sort → (sort ≡ Subscript → ⊥) → Done (ParamsRead head to) (leave_sort sort head.home)
  params_other sort head to h r =
      sort_like sort head.home _ (ResultRead head to) (params_brace sort head to h r) (params_semicolon sort head to h r)
      (sort_done sort (ResultRead head to) head (result_bodies head to) h)

  pub named_result : (head : Head) → Done (TypeWanted (ForResult head)) (a_name ∷ leave_sort head.sort head.home)
  unfolding step
  named_result head = over _ _ _ _ refl (result_done (with_result head (node.named_type (codes "x") a_name.span)) _)

  pub params_subscript : (head : Head) (to : ℕ) → head.sort ≡ Subscript → Done (ParamsRead head to) (mark k.Colon ∷ a_name ∷ leave_sort head.sort head.home)
  unfolding step
  params_subscript head to h = over _ _ _ _ (rw (h, step) refl) (named_result head)

  pub params_sort : (sort : Sort) (head : Head) (to : ℕ) → head.sort ≡ sort → Done (ParamsRead head to) (leave_params sort head.home)
  unfolding leave_params
  params_sort FileFunction head to h = params_other FileFunction head to h (λ e. cc)
  params_sort Method head to h = params_other Method head to h (λ e. cc)
  params_sort Requirement head to h = params_other Requirement head to h (λ e. cc)
  params_sort Subscript head to h =
      subst (λ sort. Done (ParamsRead head to) (mark k.Colon ∷ a_name ∷ leave_sort sort head.home)) h (params_subscript head to h)
  params_sort Deinit head to h = params_other Deinit head to h (λ e. cc)

  pub params_done : (head : Head) (to : ℕ) → Done (ParamsRead head to) (leave_head head)
  params_done head to = params_sort head.sort head to refl

  pub opened_params_done : (head : Head) → Done (ParamsOpened head) (mark k.RightParen ∷ leave_head head)
  unfolding step
  opened_params_done head = over _ _ _ _ refl (params_done head _)

  pub param_read_done : (head : Head) → Done (ParamRead head) (mark k.RightParen ∷ leave_head head)
  unfolding step
  param_read_done head = over _ _ _ _ refl (params_done head _)

  -- TYPES

  pub closed_array_done : (word : Span) (written : T.TypeExp) (spot : Spot)
      → Done (ArrayClosed word written spot) (mark k.LeftParen ∷ mark k.RightParen ∷ leave_spot spot)
  unfolding step
  closed_array_done word written spot = over _ (ArrayOpened word written spot) _ _ refl (over _ _ _ _ refl (leaves spot _ _ _))

  pub array_done : (word : Span) (written : T.TypeExp) (spot : Spot)
      → Done (ArrayType word written spot) (mark k.Greater ∷ mark k.LeftParen ∷ mark k.RightParen ∷ leave_spot spot)
  unfolding step
  array_done word written spot = over _ _ _ _ refl (closed_array_done word written spot)

  pub element_type_done : (word : Span) (written : T.TypeExp) (u : TypeUse) (ts : List Token) → ((t : T.TypeExp) → Done (typed t u) ts)
      → Done (ArrayTypeElement word written u) (mark k.Greater ∷ ts)
  unfolding step
  element_type_done word written u ts d = over _ _ _ _ refl (d _)

  pub parts_type_done : (bracket : Span) (parts : List T.TypeExp) (u : TypeUse) (ts : List Token) → ((t : T.TypeExp) → Done (typed t u) ts)
      → Done (TypesRead bracket parts u) (mark k.RightParen ∷ ts)
  unfolding step
  parts_type_done bracket parts u ts d = over _ _ _ _ refl (d _)

  pub variable_done : (introducer : Introducer) (word : Span) (name : Name) (written : T.TypeExp) (before : List T.Stmt) (place : Place)
      → Done (BindingType introducer word name written before place) (mark k.Equal ∷ a_name ∷ leave_place place)
  unfolding step leave_use
  variable_done introducer word name written before place = over _ _ _ _ refl (a_value (ForBinding introducer word name (Some written) before place))

  pub leaves_type : (u : TypeUse) (written : T.TypeExp) → Done (typed written u) (leave_type u)
  unfolding leave_type
  leaves_type (ForElementType word u) written = element_type_done word written u _ (leaves_type u)
  leaves_type (ForTypePart bracket parts u) written = parts_type_done bracket _ u _ (leaves_type u)
  leaves_type (ForEmptyArray word spot) written = array_done word written spot
  leaves_type (ForVariable introducer word name before place) written = variable_done introducer word name written before place
  leaves_type (ForParam head from label name mode) written = param_read_done _
  leaves_type (ForResult head) written = result_done (with_result head written) _
  leaves_type (ForField owner members start name) written = member_done owner members start _ _

  pub a_type : (u : TypeUse) → Done (TypeWanted u) (a_name ∷ leave_type u)
  unfolding step
  a_type u = over _ _ _ _ refl (leaves_type u (node.named_type (codes "x") a_name.span))
