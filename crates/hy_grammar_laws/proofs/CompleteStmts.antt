-- What the grammar has the machine goes over: statements.
use Rattle.std.proofs.Common.{◌≡◌, ℕ, Bool, true, false, Option, Some, None, List, [], ◌∷◌, ◌++◌, refl, sym, ap, subst, ◌∙◌}
use Rattle.hy_base.specs.declared.position.Span.{Span}
use Rattle.hy_lexer.specs.declared.token.Token.{Token}
use Rattle.hy_lexer.specs.declared.token.TokenKind.{TokenKind}
use Rattle.hy_lexer.specs.declared.token.TokenKind.TheVariants as k
use Rattle.hy_tree.specs.Tree as T
use Rattle.hy_tree.specs.declared.name.Name.{Name}
use Rattle.hy_tree.specs.declared.operator.Arithmetic.{Arithmetic}
use Rattle.hy_tree.specs.declared.operator.Introducer.{Introducer}
use Rattle.hy_tree.specs.declared.operator.Introducer.TheVariants as introducer
use Rattle.hy_grammar.specs.Kinds.{Ending, BeginsNext, Is, infix_of, compound_of, introducer_of, continues_expression, continues_statement, if_word}
use Rattle.hy_grammar.specs.Kinds.{OpenEnd, ClosedEnd}
use Rattle.hy_grammar.specs.Nodes as node
use Rattle.hy_grammar.specs.OperandSteps.{beginning, at_operand}
use Rattle.hy_grammar.specs.StmtSteps.{blocked, brace_of, close, at_statement, at_block_opened, at_stmt_read, at_binding_type, at_return, at_branch_read}
use Rattle.hy_grammar.specs.ExprSteps.{at_compound, at_target, at_postfix_end, at_postfixed}
use Rattle.hy_grammar.specs.Machine.{step, finish}
use Rattle.hy_grammar.specs.StmtGrammar as s
use Rattle.hy_grammar.specs.StmtGrammar.{HasAnnotation, HasStmt, HasBranches, HasStmts, HasBlock}
use Rattle.hy_grammar.specs.Stack.{Place, Spot, State, InBranch, InElse, InLoop, ForTarget, ForBinding, ForAssigned, ForCompound, ForDiscard, ForReturn}
use Rattle.hy_grammar.specs.Stack.{ForYield, ForBranch, ForLoop, ForVariable, BlockOpened, StmtWanted, StmtRead, BindingWord, BindingName, BindingType}
use Rattle.hy_grammar.specs.Stack.{DiscardWord, ReturnWord, BranchRead, BranchElse, Operand, Valued, TypeWanted, in_loop}
use Rattle.hy_grammar_laws.proofs.Ends.{Goes, thens, eats, alike, every, OnFront, begins, on_begins, starts_operand, begins_expr, ExprEnds, is_step, expr_ends}
use Rattle.hy_grammar_laws.proofs.Complete.{c_type, expression}

-- TOKENS BEHIND STATEMENTS

pub record OpenEnds (t : Token) : Type 0 where
  pub ends : ExprEnds t
  pub target : (it : T.Expr) (before : List T.Stmt) (place : Place)
      → at_target t.kind t it before place ≡ at_stmt_read t.kind t (before ++ node.evaluate it ∷ []) place

pub record ClosedEnds (t : Token) : Type 0 where
  pub branch : (from : ℕ) (branches : List T.Branch) (to : ℕ) (before : List T.Stmt) (place : Place)
      → at_branch_read t.kind t from branches to before place ≡ at_stmt_read t.kind t (before ++ node.if_only from branches to ∷ []) place
  pub binding : (word : Span) (name : Name) (written : T.TypeExp) (before : List T.Stmt) (place : Place)
      → at_binding_type t.kind t introducer.Var word name written before place ≡ at_stmt_read t.kind t (before ++ node.declare word name written ∷ []) place
  pub nothing : (word : Span) (before : List T.Stmt) (place : Place)
      → at_return t.kind t word before place ≡ at_stmt_read t.kind t (before ++ node.return_nothing word ∷ []) place

-- At this token a statement ends.
abbrev pub EndsStmt : Ending → Token → Type 0
EndsStmt OpenEnd t = OpenEnds t
EndsStmt ClosedEnd t = ClosedEnds t

semicolon_ends : (ending : Ending) (t : Token) → Is t k.Semicolon → EndsStmt ending t
semicolon_ends OpenEnd t h = record { ends = expr_ends k.Semicolon t refl refl h; target = λ it before place. rw h refl }
semicolon_ends ClosedEnd t h = record {
  branch = λ from branches to before place. rw h refl;
  binding =
      λ word name written before place. rw h refl;
  nothing = λ word before place. rw h refl;
}

brace_ends : (ending : Ending) (t : Token) → Is t k.RightBrace → EndsStmt ending t
brace_ends OpenEnd t h = record { ends = expr_ends k.RightBrace t refl refl h; target = λ it before place. rw h refl }
brace_ends ClosedEnd t h = record {
  branch = λ from branches to before place. rw h refl;
  binding = λ word name written before place. rw h refl;
  nothing =
      λ word before place. rw h refl;
}

-- a first token of a line that goes on with no expression
line_postfix : (kind : TokenKind) (t : Token) (primary : T.Expr) (steps : List T.Step) (to : ℕ) (spot : Spot) → t.first ≡ true
    → continues_expression kind ≡ false → at_postfixed kind t primary steps to spot ≡ at_postfix_end (node.postfix primary steps to) spot t
line_postfix k.Dot t primary steps to spot f h = cc
line_postfix k.LeftParen t primary steps to spot f h = rw f refl
line_postfix k.LeftBracket t primary steps to spot f h = rw f refl
line_postfix _ t primary steps to spot f h = refl

line_infix : (kind : TokenKind) → continues_expression kind ≡ false → infix_of kind ≡ None
line_infix k.OrOr h = cc
line_infix k.AndAnd h = cc
line_infix k.EqualEqual h = cc
line_infix k.NotEqual h = cc
line_infix k.Less h = cc
line_infix k.LessEqual h = cc
line_infix k.Greater h = cc
line_infix k.GreaterEqual h = cc
line_infix k.Plus h = cc
line_infix k.Minus h = cc
line_infix k.Star h = cc
line_infix k.Slash h = cc
line_infix k.Percent h = cc
line_infix _ h = refl

line_target : (kind : TokenKind) (t : Token) (it : T.Expr) (before : List T.Stmt) (place : Place) → continues_expression kind ≡ false
    → at_target kind t it before place ≡ at_stmt_read t.kind t (before ++ node.evaluate it ∷ []) place
line_target k.Equal t it before place h = cc
line_target k.PlusEqual t it before place h = cc
line_target k.MinusEqual t it before place h = cc
line_target k.StarEqual t it before place h = cc
line_target k.SlashEqual t it before place h = cc
line_target k.PercentEqual t it before place h = cc
line_target _ t it before place h = refl

line_branch : (kind : TokenKind) (t : Token) (from : ℕ) (branches : List T.Branch) (to : ℕ) (before : List T.Stmt) (place : Place)
    → continues_statement kind ≡ false
    → at_branch_read kind t from branches to before place ≡ at_stmt_read kind t (before ++ node.if_only from branches to ∷ []) place
line_branch k.Else t from branches to before place h = cc
line_branch _ t from branches to before place h = refl

line_binding : (kind : TokenKind) (t : Token) (word : Span) (name : Name) (written : T.TypeExp) (before : List T.Stmt) (place : Place)
    → continues_statement kind ≡ false
    → at_binding_type kind t introducer.Var word name written before place ≡ at_stmt_read t.kind t (before ++ node.declare word name written ∷ []) place
line_binding k.Equal t word name written before place h = cc
line_binding _ t word name written before place h = refl

line_nothing : (kind : TokenKind) (t : Token) (word : Span) (before : List T.Stmt) (place : Place) → t.first ≡ true
    → at_return kind t word before place ≡ at_stmt_read kind t (before ++ node.return_nothing word ∷ []) place
line_nothing k.Semicolon t word before place f = refl
line_nothing k.RightBrace t word before place f = refl
line_nothing _ t word before place f = rw f refl

line_ends : (ending : Ending) (t : Token) → BeginsNext ending t → EndsStmt ending t
line_ends OpenEnd t b = record {
  ends = record {
    postfix = λ primary steps to spot. line_postfix t.kind t primary steps to spot b.on_next_line b.no_more;
    no_infix =
        line_infix t.kind b.no_more;
  };
  target = λ it before place. line_target t.kind t it before place b.no_more;
}
line_ends ClosedEnd t b = record {
  branch = λ from branches to before place. line_branch t.kind t from branches to before place b.no_more;
  binding = λ word name written before place. line_binding t.kind t word name written before place b.no_more;
  nothing = λ word before place. line_nothing t.kind t word before place b.on_next_line;
}

on_open : (ts : List Token) → OnFront (EndsStmt OpenEnd) ts → OnFront ExprEnds ts
on_open [] x = tt
on_open (t ∷ ts) x = x.ends

-- WHAT STATEMENTS BEGIN WITH

abbrev pub starts_statement : TokenKind → Bool
starts_statement k.Var = true
starts_statement k.Let = true
starts_statement k.Inout = true
starts_statement k.Underscore = true
starts_statement k.While = true
starts_statement k.Return = true
starts_statement k.Break = true
starts_statement k.Continue = true
starts_statement k.Yield = true
starts_statement kind = starts_operand kind

introducer_starts : (kind : TokenKind) (introducer : Introducer) → introducer_of kind ≡ Some introducer → starts_statement kind ≡ true
introducer_starts k.Var introducer h = refl
introducer_starts k.Let introducer h = refl
introducer_starts k.Inout introducer h = refl
introducer_starts _ introducer h = cc

operand_starts : (kind : TokenKind) → starts_operand kind ≡ true → starts_statement kind ≡ true
operand_starts k.Var h = refl
operand_starts k.Let h = refl
operand_starts k.Inout h = refl
operand_starts k.Underscore h = refl
operand_starts k.While h = refl
operand_starts k.Return h = refl
operand_starts k.Break h = refl
operand_starts k.Continue h = refl
operand_starts k.Yield h = refl
operand_starts _ h = h

pub begins_branches : {loop : Bool} {from to : ℕ} {branches : List T.Branch} {old new : List Token} → HasBranches loop old from branches to new
    → begins starts_statement old ≡ true
begins_branches (s.first_branch h x b) = ap starts_statement h
begins_branches (s.next_branch y e i x b) = begins_branches y

begins_stmt : {loop : Bool} {it : T.Stmt} {ending : Ending} {old new : List Token} → HasStmt loop old it ending new → begins starts_statement old ≡ true
begins_stmt (s.binding {w = w} {introducer = introducer} h n a q x) = introducer_starts w.kind introducer h
begins_stmt (s.declare h n c t) = ap starts_statement h
begins_stmt (s.assign {t = t} x i q v) = operand_starts t.kind (begins_expr x)
begins_stmt (s.discard h q x) = ap starts_statement h
begins_stmt (s.compound {t = t} x i q v) = operand_starts t.kind (begins_expr x)
begins_stmt (s.evaluate {t = t} x i) = operand_starts t.kind (begins_expr x)
begins_stmt (s.if_only x) = begins_branches x
begins_stmt (s.if_block x e b) = begins_branches x
begins_stmt (s.while h x b) = ap starts_statement h
begins_stmt (s.return_nothing h) = ap starts_statement h
begins_stmt (s.return_value h f x) = ap starts_statement h
begins_stmt (s.leave h) = ap starts_statement h
begins_stmt (s.proceed h) = ap starts_statement h
begins_stmt (s.yield_value h x) = ap starts_statement h

opened_kind : (kind : TokenKind) (t : Token) (place : Place) → starts_statement kind ≡ true → at_block_opened kind t place ≡ at_statement kind t [] place
opened_kind k.RightBrace t place h = cc
opened_kind _ t place h = refl

read_kind : (kind : TokenKind) (t : Token) (before : List T.Stmt) (place : Place) → starts_statement kind ≡ true → t.first ≡ true
    → at_stmt_read kind t before place ≡ at_statement kind t before place
read_kind k.Semicolon t before place h f = cc
read_kind k.RightBrace t before place h f = cc
read_kind _ t before place h f = rw f refl

target_kind : (kind : TokenKind) (t : Token) (before : List T.Stmt) (place : Place) → starts_operand kind ≡ true → if_word kind ≡ false
    → at_statement kind t before place ≡ at_operand kind t.span (beginning (ForTarget before place))
target_kind k.Var t before place h i = cc
target_kind k.Let t before place h i = cc
target_kind k.Inout t before place h i = cc
target_kind k.Underscore t before place h i = cc
target_kind k.If t before place h i = cc
target_kind k.While t before place h i = cc
target_kind k.Return t before place h i = cc
target_kind k.Break t before place h i = cc
target_kind k.Continue t before place h i = cc
target_kind k.Yield t before place h i = cc
target_kind _ t before place h i = refl

value_kind : (kind : TokenKind) (t : Token) (word : Span) (before : List T.Stmt) (place : Place) → starts_operand kind ≡ true → t.first ≡ false
    → at_return kind t word before place ≡ at_operand kind t.span (beginning (ForReturn word before place))
value_kind k.Semicolon t word before place h f = cc
value_kind k.RightBrace t word before place h f = cc
value_kind _ t word before place h f = rw f refl

-- the word of a binding
abbrev bound_by : Option Introducer → Span → List T.Stmt → Place → Option State
bound_by None word before place = None
bound_by (Some introducer) word before place = Some (BindingWord introducer word before place)

binding_kind : (kind : TokenKind) (introducer : Introducer) (t : Token) (before : List T.Stmt) (place : Place) → introducer_of kind ≡ Some introducer
    → at_statement kind t before place ≡ Some (BindingWord introducer t.span before place)
binding_kind k.Var introducer t before place h = ap (λ o. bound_by o t.span before place) h
binding_kind k.Let introducer t before place h = ap (λ o. bound_by o t.span before place) h
binding_kind k.Inout introducer t before place h = ap (λ o. bound_by o t.span before place) h
binding_kind _ introducer t before place h = cc

compound_kind : (kind : TokenKind) (operator : Arithmetic) (t : Token) (it : T.Expr) (before : List T.Stmt) (place : Place)
    → compound_of kind ≡ Some operator → at_target kind t it before place ≡ Some (Operand (beginning (ForCompound it operator before place)))
compound_kind k.Equal operator t it before place h = cc
compound_kind _ operator t it before place h = ap (λ o. at_compound o t it before place) h

compound_step : (kind : TokenKind) (operator : Arithmetic) → compound_of kind ≡ Some operator → is_step kind ≡ false
compound_step k.Dot operator h = cc
compound_step k.LeftParen operator h = cc
compound_step k.LeftBracket operator h = cc
compound_step _ operator h = refl

compound_infix : (kind : TokenKind) (operator : Arithmetic) → compound_of kind ≡ Some operator → infix_of kind ≡ None
compound_infix k.PlusEqual operator h = refl
compound_infix k.MinusEqual operator h = refl
compound_infix k.StarEqual operator h = refl
compound_infix k.SlashEqual operator h = refl
compound_infix k.PercentEqual operator h = refl
compound_infix _ operator h = cc

compound_ends : (t : Token) (operator : Arithmetic) → compound_of t.kind ≡ Some operator → ExprEnds t
compound_ends t operator h = expr_ends t.kind t (compound_step t.kind operator h) (compound_infix t.kind operator h) refl

-- a block begins with its brace
block_front : {loop : Bool} {b : T.Block} {old new : List Token} → HasBlock loop old b new → OnFront ExprEnds old
block_front (s.no_stmts {o = o} h c) = expr_ends k.LeftBrace o refl refl h
block_front (s.some_stmts {o = o} h x c) = expr_ends k.LeftBrace o refl refl h

-- A state in which a block is wanted, the places that its brace makes, and the state after the block.
pub record BlockAt (s : State) (loop : Bool) (make : Span → Place) (after : T.Block → State) : Type 0 where
  pub opens : (o : Token) (n : ℕ) → Is o k.LeftBrace → step s o n ≡ Some (BlockOpened (make o.span))
  pub brace : (span : Span) → brace_of (make span) ≡ span
  pub looped : (span : Span) → in_loop (make span) ≡ loop
  pub behind : (b : T.Block) (span : Span) → blocked b (make span) ≡ after b

branch_block : (from : ℕ) (branches : List T.Branch) (word : Span) (condition : T.Expr) (before : List T.Stmt) (place : Place)
    → BlockAt (Valued condition (ForBranch from branches word before place)) (in_loop place)
    (λ span. InBranch from branches word condition span before place)
    (λ b. BranchRead from (branches ++ node.branch word condition b ∷ []) (node.block_to b) before place)
unfolding step
branch_block from branches word condition before place = record {
  opens = λ o n h. rw (h, step) refl;
  brace = λ span. refl;
  looped = λ span. refl;
  behind =
      λ b span. refl;
}

else_block : (from : ℕ) (branches : List T.Branch) (before : List T.Stmt) (place : Place)
    → BlockAt (BranchElse from branches before place) (in_loop place) (λ span. InElse from branches span before place)
    (λ b. StmtRead (before ++ node.if_block from branches b ∷ []) place)
unfolding step
else_block from branches before place = record { opens = λ o n h. rw (h, step) refl; brace = λ span. refl; looped = λ span. refl; behind = λ b span. refl }

loop_block : (word : Span) (condition : T.Expr) (before : List T.Stmt) (place : Place)
    → BlockAt (Valued condition (ForLoop word before place)) true (λ span. InLoop word condition span before place)
    (λ b. StmtRead (before ++ node.while word condition b ∷ []) place)
unfolding step
loop_block word condition before place = record { opens = λ o n h. rw (h, step) refl; brace = λ span. refl; looped = λ span. refl; behind = λ b span. refl }

closed : {s : State} {loop : Bool} {make : Span → Place} {after : T.Block → State} (b : BlockAt s loop make after) (o c : Span) (ss : List T.Stmt)
    → close ss (make o) c ≡ after (node.block o ss c)
closed {make = make} b o c ss = ap (λ z. blocked (node.block z ss c) (make o)) (b.brace o) ∙ b.behind (node.block o ss c) o

module _ {total : ℕ} where
  -- TOKENS OF STATEMENTS

  binding_word : {t : Token} {ts : List Token} {introducer : Introducer} {before : List T.Stmt} {place : Place} → introducer_of t.kind ≡ Some introducer
      → Goes total (StmtWanted before place) (t ∷ ts) (BindingWord introducer t.span before place) ts
  unfolding step
  binding_word {t = t} {introducer = introducer} {before = before} {place = place} h = eats (binding_kind t.kind introducer t before place h)

  binding_name : {t : Token} {text : List ℕ} {ts : List Token} {introducer : Introducer} {word : Span} {before : List T.Stmt} {place : Place}
      → Is t (k.Name text)
      → Goes total (BindingWord introducer word before place) (t ∷ ts) (BindingName introducer word (node.spelled text t.span) before place) ts
  unfolding step
  binding_name h = eats (rw (h, step) refl)

  binding_colon : {t : Token} {ts : List Token} {introducer : Introducer} {word : Span} {name : Name} {before : List T.Stmt} {place : Place} → Is t k.Colon
      → Goes total (BindingName introducer word name before place) (t ∷ ts) (TypeWanted (ForVariable introducer word name before place)) ts
  unfolding step
  binding_colon h = eats (rw (h, step) refl)

  binding_equal : {t : Token} {ts : List Token} {introducer : Introducer} {word : Span} {name : Name} {before : List T.Stmt} {place : Place} → Is t k.Equal
      → Goes total (BindingName introducer word name before place) (t ∷ ts) (Operand (beginning (ForBinding introducer word name None before place))) ts
  unfolding step
  binding_equal h = eats (rw (h, step) refl)

  typed_equal : {t : Token} {ts : List Token} {introducer : Introducer} {word : Span} {name : Name} {written : T.TypeExp} {before : List T.Stmt}
      {place : Place} → Is t k.Equal
      → Goes total (BindingType introducer word name written before place) (t ∷ ts)
      (Operand (beginning (ForBinding introducer word name (Some written) before place))) ts
  unfolding step
  typed_equal h = eats (rw (h, step) refl)

  annotated : {written : Option T.TypeExp} {q : Token} {old mid ts : List Token} → HasAnnotation old written mid → mid ≡ q ∷ ts → Is q k.Equal
      → (introducer : Introducer) (word : Span) (name : Name) (before : List T.Stmt) (place : Place)
      → Goes total (BindingName introducer word name before place) old (Operand (beginning (ForBinding introducer word name written before place))) ts
  annotated {q = q} {ts = ts} s.no_type e h introducer word name before place =
      subst (λ z. Goes total (BindingName introducer word name before place) z (Operand (beginning (ForBinding introducer word name None before place))) ts)
      (sym e) (binding_equal h)
  annotated {q = q} {ts = ts} (s.a_type {written = written} c t) e h introducer word name before place =
      thens (binding_colon c) (thens (c_type t (ForVariable introducer word name before place))
      (subst (λ z. Goes total (BindingType introducer word name written before place) z
      (Operand (beginning (ForBinding introducer word name (Some written) before place))) ts) (sym e) (typed_equal h)))

  to_target : (t : Token) (ts : List Token) (before : List T.Stmt) (place : Place) → starts_operand t.kind ≡ true → if_word t.kind ≡ false
      → Goes total (StmtWanted before place) (t ∷ ts) (Operand (beginning (ForTarget before place))) (t ∷ ts)
  unfolding step finish
  to_target t ts before place h i = alike refl (λ n. target_kind t.kind t before place h i)

  target_equal : {t : Token} {ts : List Token} {it : T.Expr} {before : List T.Stmt} {place : Place} → Is t k.Equal
      → Goes total (Valued it (ForTarget before place)) (t ∷ ts) (Operand (beginning (ForAssigned it before place))) ts
  unfolding step
  target_equal h = eats (rw (h, step) refl)

  target_compound : {t : Token} {ts : List Token} {operator : Arithmetic} {it : T.Expr} {before : List T.Stmt} {place : Place}
      → compound_of t.kind ≡ Some operator
      → Goes total (Valued it (ForTarget before place)) (t ∷ ts) (Operand (beginning (ForCompound it operator before place))) ts
  unfolding step
  target_compound {t = t} {operator = operator} {it = it} {before = before} {place = place} h = eats (compound_kind t.kind operator t it before place h)

  evaluated : (it : T.Expr) (before : List T.Stmt) (place : Place) (ts : List Token) → OnFront (EndsStmt OpenEnd) ts
      → Goes total (Valued it (ForTarget before place)) ts (StmtRead (before ++ node.evaluate it ∷ []) place) ts
  unfolding step finish
  evaluated it before place [] x = alike refl tt
  evaluated it before place (t ∷ ts) x = alike refl (λ n. x.target it before place)

  bound : (it : T.Expr) (introducer : Introducer) (word : Span) (name : Name) (written : Option T.TypeExp) (before : List T.Stmt) (place : Place)
      (ts : List Token)
      → Goes total (Valued it (ForBinding introducer word name written before place)) ts
      (StmtRead (before ++ node.binding introducer word name written it ∷ []) place) ts
  unfolding step finish
  bound it introducer word name written before place ts = alike refl (every _ (λ t n. refl) ts)

  assigned : (it target : T.Expr) (before : List T.Stmt) (place : Place) (ts : List Token)
      → Goes total (Valued it (ForAssigned target before place)) ts (StmtRead (before ++ node.assign target it ∷ []) place) ts
  unfolding step finish
  assigned it target before place ts = alike refl (every _ (λ t n. refl) ts)

  compounded : (it target : T.Expr) (operator : Arithmetic) (before : List T.Stmt) (place : Place) (ts : List Token)
      → Goes total (Valued it (ForCompound target operator before place)) ts (StmtRead (before ++ node.compound target operator it ∷ []) place) ts
  unfolding step finish
  compounded it target operator before place ts = alike refl (every _ (λ t n. refl) ts)

  discarded : (it : T.Expr) (word : Span) (before : List T.Stmt) (place : Place) (ts : List Token)
      → Goes total (Valued it (ForDiscard word before place)) ts (StmtRead (before ++ node.discard word it ∷ []) place) ts
  unfolding step finish
  discarded it word before place ts = alike refl (every _ (λ t n. refl) ts)

  returned : (it : T.Expr) (word : Span) (before : List T.Stmt) (place : Place) (ts : List Token)
      → Goes total (Valued it (ForReturn word before place)) ts (StmtRead (before ++ node.return_value word it ∷ []) place) ts
  unfolding step finish
  returned it word before place ts = alike refl (every _ (λ t n. refl) ts)

  yielded : (it : T.Expr) (word : Span) (before : List T.Stmt) (place : Place) (ts : List Token)
      → Goes total (Valued it (ForYield word before place)) ts (StmtRead (before ++ node.yield_value word it ∷ []) place) ts
  unfolding step finish
  yielded it word before place ts = alike refl (every _ (λ t n. refl) ts)

  declared : (word : Span) (name : Name) (written : T.TypeExp) (before : List T.Stmt) (place : Place) (ts : List Token) → OnFront (EndsStmt ClosedEnd) ts
      → Goes total (BindingType introducer.Var word name written before place) ts (StmtRead (before ++ node.declare word name written ∷ []) place) ts
  unfolding step finish
  declared word name written before place [] x = alike refl tt
  declared word name written before place (t ∷ ts) x = alike refl (λ n. x.binding word name written before place)

  branch_only : (from : ℕ) (branches : List T.Branch) (to : ℕ) (before : List T.Stmt) (place : Place) (ts : List Token) → OnFront (EndsStmt ClosedEnd) ts
      → Goes total (BranchRead from branches to before place) ts (StmtRead (before ++ node.if_only from branches to ∷ []) place) ts
  unfolding step finish
  branch_only from branches to before place [] x = alike refl tt
  branch_only from branches to before place (t ∷ ts) x = alike refl (λ n. x.branch from branches to before place)

  returned_nothing : (word : Span) (before : List T.Stmt) (place : Place) (ts : List Token) → OnFront (EndsStmt ClosedEnd) ts
      → Goes total (ReturnWord word before place) ts (StmtRead (before ++ node.return_nothing word ∷ []) place) ts
  unfolding step finish
  returned_nothing word before place [] x = alike refl tt
  returned_nothing word before place (t ∷ ts) x = alike refl (λ n. x.nothing word before place)

  to_value : (t : Token) (ts : List Token) (word : Span) (before : List T.Stmt) (place : Place) → starts_operand t.kind ≡ true → t.first ≡ false
      → Goes total (ReturnWord word before place) (t ∷ ts) (Operand (beginning (ForReturn word before place))) (t ∷ ts)
  unfolding step finish
  to_value t ts word before place h f = alike refl (λ n. value_kind t.kind t word before place h f)

  discard_word : {t : Token} {ts : List Token} {before : List T.Stmt} {place : Place} → Is t k.Underscore
      → Goes total (StmtWanted before place) (t ∷ ts) (DiscardWord t.span before place) ts
  unfolding step
  discard_word h = eats (rw (h, step) refl)

  discard_equal : {t : Token} {ts : List Token} {word : Span} {before : List T.Stmt} {place : Place} → Is t k.Equal
      → Goes total (DiscardWord word before place) (t ∷ ts) (Operand (beginning (ForDiscard word before place))) ts
  unfolding step
  discard_equal h = eats (rw (h, step) refl)

  if_first : {t : Token} {ts : List Token} {before : List T.Stmt} {place : Place} → Is t k.If
      → Goes total (StmtWanted before place) (t ∷ ts) (Operand (beginning (ForBranch t.span.from [] t.span before place))) ts
  unfolding step
  if_first h = eats (rw (h, step) refl)

  branch_else : {t : Token} {ts : List Token} {from to : ℕ} {branches : List T.Branch} {before : List T.Stmt} {place : Place} → Is t k.Else
      → Goes total (BranchRead from branches to before place) (t ∷ ts) (BranchElse from branches before place) ts
  unfolding step
  branch_else h = eats (rw (h, step) refl)

  else_if : {t : Token} {ts : List Token} {from : ℕ} {branches : List T.Branch} {before : List T.Stmt} {place : Place} → Is t k.If
      → Goes total (BranchElse from branches before place) (t ∷ ts) (Operand (beginning (ForBranch from branches t.span before place))) ts
  unfolding step
  else_if h = eats (rw (h, step) refl)

  while_word : {t : Token} {ts : List Token} {before : List T.Stmt} {place : Place} → Is t k.While
      → Goes total (StmtWanted before place) (t ∷ ts) (Operand (beginning (ForLoop t.span before place))) ts
  unfolding step
  while_word h = eats (rw (h, step) refl)

  return_word : {t : Token} {ts : List Token} {before : List T.Stmt} {place : Place} → Is t k.Return
      → Goes total (StmtWanted before place) (t ∷ ts) (ReturnWord t.span before place) ts
  unfolding step
  return_word h = eats (rw (h, step) refl)

  yield_word : {t : Token} {ts : List Token} {before : List T.Stmt} {place : Place} → Is t k.Yield
      → Goes total (StmtWanted before place) (t ∷ ts) (Operand (beginning (ForYield t.span before place))) ts
  unfolding step
  yield_word h = eats (rw (h, step) refl)

  break_word : {t : Token} {ts : List Token} {before : List T.Stmt} {place : Place} → Is t k.Break → in_loop place ≡ true
      → Goes total (StmtWanted before place) (t ∷ ts) (StmtRead (before ++ node.leave t.span ∷ []) place) ts
  unfolding step
  break_word h l = eats (rw (h, l, step) refl)

  continue_word : {t : Token} {ts : List Token} {before : List T.Stmt} {place : Place} → Is t k.Continue → in_loop place ≡ true
      → Goes total (StmtWanted before place) (t ∷ ts) (StmtRead (before ++ node.proceed t.span ∷ []) place) ts
  unfolding step
  continue_word h l = eats (rw (h, l, step) refl)

  -- SEPARATORS

  first_stmt : (place : Place) (ts : List Token) → begins starts_statement ts ≡ true → Goes total (BlockOpened place) ts (StmtWanted [] place) ts
  unfolding step finish
  first_stmt place ts h = alike refl (on_begins starts_statement _ (λ t h n. opened_kind t.kind t place h) ts h)

  past_semicolon : {t : Token} {ts : List Token} {before : List T.Stmt} {place : Place} → Is t k.Semicolon
      → Goes total (StmtRead before place) (t ∷ ts) (StmtWanted before place) ts
  unfolding step
  past_semicolon h = eats (rw (h, step) refl)

  next_line : (t : Token) (ts : List Token) (before : List T.Stmt) (place : Place) → starts_statement t.kind ≡ true → t.first ≡ true
      → Goes total (StmtRead before place) (t ∷ ts) (StmtWanted before place) (t ∷ ts)
  unfolding step finish
  next_line t ts before place h f = alike refl (λ n. read_kind t.kind t before place h f)

  -- BLOCKS

  open_block : {s : State} {loop : Bool} {make : Span → Place} {after : T.Block → State} {o : Token} {ts : List Token} → BlockAt s loop make after
      → Is o k.LeftBrace → Goes total s (o ∷ ts) (BlockOpened (make o.span)) ts
  open_block {o = o} b h = eats (b.opens o _ h)

  close_none : {s : State} {loop : Bool} {make : Span → Place} {after : T.Block → State} (o : Span) {c : Token} {ts : List Token}
      → BlockAt s loop make after → Is c k.RightBrace → Goes total (BlockOpened (make o)) (c ∷ ts) (after (node.block o [] c.span)) ts
  unfolding step
  close_none {make = make} o {c = c} {ts = ts} b h =
      subst (λ z. Goes total (BlockOpened (make o)) (c ∷ ts) z ts) (closed b o c.span []) (eats (rw (h, step) refl))

  close_some : {s : State} {loop : Bool} {make : Span → Place} {after : T.Block → State} (o : Span) {c : Token} (ss : List T.Stmt) {ts : List Token}
      → BlockAt s loop make after → Is c k.RightBrace → Goes total (StmtRead ss (make o)) (c ∷ ts) (after (node.block o ss c.span)) ts
  unfolding step
  close_some {make = make} o {c = c} ss {ts = ts} b h =
      subst (λ z. Goes total (StmtRead ss (make o)) (c ∷ ts) z ts) (closed b o c.span ss) (eats (rw (h, step) refl))

  mutual
    pub c_stmt : {loop : Bool} {it : T.Stmt} {ending : Ending} {old new : List Token} → HasStmt loop old it ending new
        → (before : List T.Stmt) (place : Place) → in_loop place ≡ loop → OnFront (EndsStmt ending) new
        → Goes total (StmtWanted before place) old (StmtRead (before ++ it ∷ []) place) new
    c_stmt (s.binding {w = w} {n = n} {q = q} {introducer = introducer} {text = text} {written = written} {e = it} {new = new} h hn a hq x) before place l f =
        thens (binding_word h)
        (thens (binding_name hn) (thens (annotated a refl hq introducer w.span (node.spelled text n.span) before place)
        (thens (expression x _ (on_open new f)) (bound it introducer w.span (node.spelled text n.span) written before place new))))
    c_stmt (s.declare {w = w} {n = n} {text = text} {written = written} {new = new} h hn hc t) before place l f =
        thens (binding_word (ap introducer_of h)) (thens (binding_name hn) (thens (binding_colon hc)
        (thens (c_type t (ForVariable introducer.Var w.span (node.spelled text n.span) before place))
        (declared w.span (node.spelled text n.span) written before place new f))))
    c_stmt (s.assign {t = t} {q = q} {target = target} {e = it} {old = old} {new = new} x i hq v) before place l f =
        thens (to_target t old before place (begins_expr x) i)
        (thens (expression x _ (expr_ends k.Equal q refl refl hq))
        (thens (target_equal hq) (thens (expression v _ (on_open new f)) (assigned it target before place new))))
    c_stmt (s.discard {w = w} {e = it} {new = new} h hq x) before place l f =
        thens (discard_word h) (thens (discard_equal hq) (thens (expression x _ (on_open new f)) (discarded it w.span before place new)))
    c_stmt (s.compound {t = t} {q = q} {operator = operator} {target = target} {e = it} {old = old} {new = new} x i hq v) before place l f =
        thens (to_target t old before place (begins_expr x) i)
        (thens (expression x _ (compound_ends q operator hq))
        (thens (target_compound hq) (thens (expression v _ (on_open new f)) (compounded it target operator before place new))))
    c_stmt (s.evaluate {t = t} {e = it} {old = old} {new = new} x i) before place l f =
        thens (to_target t old before place (begins_expr x) i) (thens (expression x _ (on_open new f)) (evaluated it before place new f))
    c_stmt (s.if_only {from = from} {to = to} {branches = branches} {new = new} x) before place l f =
        thens (c_branches x before place l) (branch_only from branches to before place new f)
    c_stmt (s.if_block {from = from} {branches = branches} x e b) before place l f =
        thens (c_branches x before place l) (thens (branch_else e) (c_block b (else_block from branches before place) l))
    c_stmt (s.while {w = w} {condition = condition} h x b) before place l f =
        thens (while_word h) (thens (expression x _ (block_front b)) (c_block b (loop_block w.span condition before place) refl))
    c_stmt (s.return_nothing {w = w} {new = new} h) before place l f = thens (return_word h) (returned_nothing w.span before place new f)
    c_stmt (s.return_value {w = w} {t = t} {e = it} {old = old} {new = new} h first x) before place l f =
        thens (return_word h) (thens (to_value t old w.span before place (begins_expr x) first)
        (thens (expression x _ (on_open new f)) (returned it w.span before place new)))
    c_stmt (s.leave h) before place l f = break_word h l
    c_stmt (s.proceed h) before place l f = continue_word h l
    c_stmt (s.yield_value {w = w} {e = it} {new = new} h x) before place l f =
        thens (yield_word h) (thens (expression x _ (on_open new f)) (yielded it w.span before place new))

    c_branches : {loop : Bool} {from to : ℕ} {branches : List T.Branch} {old new : List Token} → HasBranches loop old from branches to new
        → (before : List T.Stmt) (place : Place) → in_loop place ≡ loop
        → Goes total (StmtWanted before place) old (BranchRead from branches to before place) new
    c_branches (s.first_branch {i = i} {condition = condition} h x b) before place l =
        thens (if_first h) (thens (expression x _ (block_front b)) (c_block b (branch_block i.span.from [] i.span condition before place) l))
    c_branches (s.next_branch {i = i} {from = from} {branches = branches} {condition = condition} y e h x b) before place l =
        thens (c_branches y before place l)
        (thens (branch_else e)
        (thens (else_if h) (thens (expression x _ (block_front b)) (c_block b (branch_block from branches i.span condition before place) l))))

    c_stmts : {loop : Bool} {ss : List T.Stmt} {ending : Ending} {old new : List Token} → HasStmts loop old ss ending new → (place : Place)
        → in_loop place ≡ loop → OnFront (EndsStmt ending) new → Goes total (BlockOpened place) old (StmtRead ss place) new
    c_stmts (s.one_stmt {old = old} x) place l f = thens (first_stmt place old (begins_stmt x)) (c_stmt x [] place l f)
    c_stmts (s.behind_semicolon {c = c} {ss = ss} {ending = ending} y h x) place l f =
        thens (c_stmts y place l (semicolon_ends ending c h)) (thens (past_semicolon h) (c_stmt x ss place l f))
    c_stmts (s.on_next_line {t = t} {ss = ss} {ending = ending} {mid = mid} y b x) place l f =
        thens (c_stmts y place l (line_ends ending t b)) (thens (next_line t mid ss place (begins_stmt x) b.on_next_line) (c_stmt x ss place l f))

    pub c_block : {loop other : Bool} {s : State} {make : Span → Place} {after : T.Block → State} {b : T.Block} {old new : List Token}
        → HasBlock loop old b new → BlockAt s other make after → other ≡ loop → Goes total s old (after b) new
    c_block (s.no_stmts {o = o} h c) x l = thens (open_block x h) (close_none o.span x c)
    c_block (s.some_stmts {o = o} {c = c} {ss = ss} {ending = ending} h y hc) x l =
        thens (open_block x h) (thens (c_stmts y _ (x.looped o.span ∙ l) (brace_ends ending c hc)) (close_some o.span ss x hc))
