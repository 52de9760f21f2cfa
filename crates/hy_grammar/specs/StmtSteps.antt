-- How the machine goes on at a token that begins, separates or ends statements.
use Rattle.std.specs.Prelude.{ℕ, if◌then◌else◌, List, [], ◌∷◌, ◌++◌, Option, Some, None}
use Rattle.std.specs.Option.{unwrap_or}
use Rattle.hy_base.specs.declared.position.Span.{Span}
use Rattle.hy_lexer.specs.declared.token.Token.{Token}
use Rattle.hy_lexer.specs.declared.token.TokenKind.{TokenKind}
use Rattle.hy_lexer.specs.declared.token.TokenKind.TheVariants as k
use Rattle.hy_tree.specs.Tree as T
use Rattle.hy_tree.specs.declared.declaration.CallableKind.{CallableKind}
use Rattle.hy_tree.specs.declared.declaration.CallableKind.TheVariants as callable
use Rattle.hy_tree.specs.declared.name.Name.{Name}
use Rattle.hy_tree.specs.declared.operator.Introducer.{Introducer}
use Rattle.hy_tree.specs.declared.operator.Introducer.TheVariants as introducer
use Rattle.hy_tree.specs.declared.operator.Mode.{Mode}
use Rattle.hy_tree.specs.declared.operator.Mode.TheVariants as mode
use Rattle.hy_grammar.specs.Nodes as node
use Rattle.hy_grammar.specs.OperandSteps.{beginning, at_operand}
use Rattle.hy_grammar.specs.Stack.{Sort, FileFunction, Method, Requirement, Subscript, Deinit, Home, InFile, InOwner, Head, Body, PlainBody, VariantBody}
use Rattle.hy_grammar.specs.Stack.{Place, InBody, InBranch, InElse, InLoop, in_loop, ForTarget, ForBinding, ForReturn, ForYield, ForBranch, ForLoop}
use Rattle.hy_grammar.specs.Stack.{ForVariable, State, DeclRead, MemberRead, VariantsRead, BlockOpened, StmtWanted, StmtRead, BindingWord, DiscardWord}
use Rattle.hy_grammar.specs.Stack.{ReturnWord, BranchRead, BranchElse, Operand, TypeWanted}

-- ENDS OF BLOCKS

abbrev pub kind_of : Sort → CallableKind
kind_of FileFunction = callable.Function
kind_of Method = callable.Function
kind_of Requirement = callable.Requirement
kind_of Subscript = callable.Subscript
kind_of Deinit = callable.Deinit

-- the convention of the one plain body
abbrev pub plain_mode : Sort → Option Mode → Mode
plain_mode Deinit effect = mode.Inout
plain_mode _ effect = unwrap_or effect mode.Let

abbrev pub callable_of : Head → List T.Variant → ℕ → T.Callable
callable_of head variants end = node.callable (kind_of head.sort) head.keyword head.name head.generics head.params head.effect head.result variants end

-- after something callable, whose last token ends there
abbrev pub called_in : Home → Head → List T.Variant → ℕ → State
called_in (InFile decls) head variants end = DeclRead decls head.start (T.DeclCallable (callable_of head variants end)) end
called_in (InOwner owner members) head variants end = MemberRead owner members head.start (T.MemberCallable (callable_of head variants end)) end

abbrev pub callable_read : Head → List T.Variant → ℕ → State
callable_read head variants end = called_in head.home head variants end

abbrev pub bodied : T.Block → Body → State
bodied block (PlainBody head) = callable_read head (node.plain_variant (plain_mode head.sort head.effect) block ∷ []) (node.block_to block)
bodied block (VariantBody head brace variants keyword mode value) = VariantsRead head brace (variants ++ node.variant mode keyword value block ∷ [])

-- after a block
abbrev pub blocked : T.Block → Place → State
blocked block (InBody body brace) = bodied block body
blocked block (InBranch from branches word condition brace before place) =
    BranchRead from (branches ++ node.branch word condition block ∷ []) (node.block_to block) before place
blocked block (InElse from branches brace before place) = StmtRead (before ++ node.if_block from branches block ∷ []) place
blocked block (InLoop word condition brace before place) = StmtRead (before ++ node.while word condition block ∷ []) place

abbrev pub brace_of : Place → Span
brace_of (InBody body brace) = brace
brace_of (InBranch from branches word condition brace before place) = brace
brace_of (InElse from branches brace before place) = brace
brace_of (InLoop word condition brace before place) = brace

-- what a `}` makes of the statements before it
abbrev pub close : List T.Stmt → Place → Span → State
close ss place t = blocked (node.block (brace_of place) ss t) place

-- STATEMENTS

abbrev pub at_statement : TokenKind → Token → List T.Stmt → Place → Option State
at_statement k.Var t before place = Some (BindingWord introducer.Var t.span before place)
at_statement k.Let t before place = Some (BindingWord introducer.Let t.span before place)
at_statement k.Inout t before place = Some (BindingWord introducer.Inout t.span before place)
at_statement k.Underscore t before place = Some (DiscardWord t.span before place)
at_statement k.If t before place = Some (Operand (beginning (ForBranch t.span.from [] t.span before place)))
at_statement k.While t before place = Some (Operand (beginning (ForLoop t.span before place)))
at_statement k.Return t before place = Some (ReturnWord t.span before place)
at_statement k.Break t before place = if in_loop place then Some (StmtRead (before ++ node.leave t.span ∷ []) place) else None
at_statement k.Continue t before place = if in_loop place then Some (StmtRead (before ++ node.proceed t.span ∷ []) place) else None
at_statement k.Yield t before place = Some (Operand (beginning (ForYield t.span before place)))
at_statement kind t before place = at_operand kind t.span (beginning (ForTarget before place))

abbrev pub at_block_opened : TokenKind → Token → Place → Option State
at_block_opened k.RightBrace t place = Some (close [] place t.span)
at_block_opened kind t place = at_statement kind t [] place

-- Statements are separated by a `;`, or by a token that is the first on its line.
abbrev pub at_stmt_read : TokenKind → Token → List T.Stmt → Place → Option State
at_stmt_read k.Semicolon t before place = Some (StmtWanted before place)
at_stmt_read k.RightBrace t before place = Some (close before place t.span)
at_stmt_read kind t before place = if t.first then at_statement kind t before place else None

abbrev pub at_binding_name : TokenKind → Introducer → Span → Name → List T.Stmt → Place → Option State
at_binding_name k.Colon introducer word name before place = Some (TypeWanted (ForVariable introducer word name before place))
at_binding_name k.Equal introducer word name before place = Some (Operand (beginning (ForBinding introducer word name None before place)))
at_binding_name _ introducer word name before place = None

-- `var` alone may leave its value out.
abbrev pub at_declared : Introducer → Token → Span → Name → T.TypeExp → List T.Stmt → Place → Option State
at_declared introducer.Var t word name written before place = at_stmt_read t.kind t (before ++ node.declare word name written ∷ []) place
at_declared _ t word name written before place = None

abbrev pub at_binding_type : TokenKind → Token → Introducer → Span → Name → T.TypeExp → List T.Stmt → Place → Option State
at_binding_type k.Equal t introducer word name written before place = Some (Operand (beginning (ForBinding introducer word name (Some written) before place)))
at_binding_type kind t introducer word name written before place = at_declared introducer t word name written before place

-- `return` has a value where the next token is on its line, and is neither `;` nor `}`.
abbrev pub at_return : TokenKind → Token → Span → List T.Stmt → Place → Option State
at_return k.Semicolon t word before place = at_stmt_read k.Semicolon t (before ++ node.return_nothing word ∷ []) place
at_return k.RightBrace t word before place = at_stmt_read k.RightBrace t (before ++ node.return_nothing word ∷ []) place
at_return kind t word before place =
    if t.first then at_stmt_read kind t (before ++ node.return_nothing word ∷ []) place else at_operand kind t.span
    (beginning (ForReturn word before place))

abbrev pub at_branch_read : TokenKind → Token → ℕ → List T.Branch → ℕ → List T.Stmt → Place → Option State
at_branch_read k.Else t from branches to before place = Some (BranchElse from branches before place)
at_branch_read kind t from branches to before place = at_stmt_read kind t (before ++ node.if_only from branches to ∷ []) place

abbrev pub at_branch_else : TokenKind → Span → ℕ → List T.Branch → List T.Stmt → Place → Option State
at_branch_else k.If t from branches before place = Some (Operand (beginning (ForBranch from branches t before place)))
at_branch_else k.LeftBrace t from branches before place = Some (BlockOpened (InElse from branches t before place))
at_branch_else _ t from branches before place = None
