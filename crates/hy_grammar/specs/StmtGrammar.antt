-- The grammar of statements. Each relation has the tokens before a part, the part, and the tokens after it.
use Rattle.std.specs.Prelude.{◌≡◌, ℕ, Bool, true, false, List, [], ◌∷◌, ◌++◌, Option, Some, None}
use Rattle.hy_lexer.specs.declared.token.Token.{Token}
use Rattle.hy_lexer.specs.declared.token.TokenKind.TheVariants as k
use Rattle.hy_tree.specs.Tree as T
use Rattle.hy_tree.specs.declared.operator.Arithmetic.{Arithmetic}
use Rattle.hy_tree.specs.declared.operator.Introducer.{Introducer}
use Rattle.hy_grammar.specs.Kinds.{Is, Disjunction, Ending, OpenEnd, ClosedEnd, BeginsNext, introducer_of, compound_of, if_word}
use Rattle.hy_grammar.specs.Nodes as node
use Rattle.hy_grammar.specs.ExprGrammar.{HasExpr}
use Rattle.hy_grammar.specs.TypeGrammar.{HasType}

-- [ ":" type ]
pub data HasAnnotation : List Token → Option T.TypeExp → List Token → Type 0 where
  no_type : {old : List Token} → HasAnnotation old None old
  a_type : {c : Token} {written : T.TypeExp} {old new : List Token} → Is c k.Colon → HasType old written new → HasAnnotation (c ∷ old) (Some written) new

mutual
  -- A statement, in a loop or not; with it, what it ends with.
  pub data HasStmt : Bool → List Token → T.Stmt → Ending → List Token → Type 0 where
    -- ("var" | "let" | "inout") NAME [":" type] "=" expr | "var" NAME ":" type
    binding : {loop : Bool} {w n q : Token} {introducer : Introducer} {text : List ℕ} {written : Option T.TypeExp} {e : T.Expr} {old mid new : List Token}
        → introducer_of w.kind ≡ Some introducer → Is n (k.Name text) → HasAnnotation old written (q ∷ mid) → Is q k.Equal → HasExpr Disjunction mid e new
        → HasStmt loop (w ∷ n ∷ old) (node.binding introducer w.span (node.spelled text n.span) written e) OpenEnd new
    declare : {loop : Bool} {w n c : Token} {text : List ℕ} {written : T.TypeExp} {old new : List Token} → Is w k.Var → Is n (k.Name text) → Is c k.Colon
        → HasType old written new
        → HasStmt loop (w ∷ n ∷ c ∷ old) (node.declare w.span (node.spelled text n.span) written) ClosedEnd new
    -- (expr | "_") "=" expr | expr ("+=" | "-=" | "*=" | "/=" | "%=") expr | expr
    -- An `if` that begins a statement is the statement.
    assign : {loop : Bool} {t q : Token} {target e : T.Expr} {old mid new : List Token} → HasExpr Disjunction (t ∷ old) target (q ∷ mid)
        → if_word t.kind ≡ false → Is q k.Equal → HasExpr Disjunction mid e new
        → HasStmt loop (t ∷ old) (node.assign target e) OpenEnd new
    discard : {loop : Bool} {w q : Token} {e : T.Expr} {old new : List Token} → Is w k.Underscore → Is q k.Equal → HasExpr Disjunction old e new
        → HasStmt loop (w ∷ q ∷ old) (node.discard w.span e) OpenEnd new
    compound : {loop : Bool} {t q : Token} {operator : Arithmetic} {target e : T.Expr} {old mid new : List Token}
        → HasExpr Disjunction (t ∷ old) target (q ∷ mid) → if_word t.kind ≡ false → compound_of q.kind ≡ Some operator → HasExpr Disjunction mid e new
        → HasStmt loop (t ∷ old) (node.compound target operator e) OpenEnd new
    evaluate : {loop : Bool} {t : Token} {e : T.Expr} {old new : List Token} → HasExpr Disjunction (t ∷ old) e new → if_word t.kind ≡ false
        → HasStmt loop (t ∷ old) (node.evaluate e) OpenEnd new
    -- branches [ "else" block ]
    if_only : {loop : Bool} {from to : ℕ} {branches : List T.Branch} {old new : List Token} → HasBranches loop old from branches to new
        → HasStmt loop old (node.if_only from branches to) ClosedEnd new
    if_block : {loop : Bool} {e : Token} {from to : ℕ} {branches : List T.Branch} {otherwise : T.Block} {old mid new : List Token}
        → HasBranches loop old from branches to (e ∷ mid) → Is e k.Else → HasBlock loop mid otherwise new
        → HasStmt loop old (node.if_block from branches otherwise) ClosedEnd new
    -- "while" expr block
    while : {loop : Bool} {w : Token} {condition : T.Expr} {body : T.Block} {old mid new : List Token} → Is w k.While
        → HasExpr Disjunction old condition mid → HasBlock true mid body new → HasStmt loop (w ∷ old) (node.while w.span condition body) ClosedEnd new
    -- "return" [expr]: the value begins on the line of the `return`
    return_nothing : {loop : Bool} {w : Token} {new : List Token} → Is w k.Return → HasStmt loop (w ∷ new) (node.return_nothing w.span) ClosedEnd new
    return_value : {loop : Bool} {w t : Token} {e : T.Expr} {old new : List Token} → Is w k.Return → t.first ≡ false → HasExpr Disjunction (t ∷ old) e new
        → HasStmt loop (w ∷ t ∷ old) (node.return_value w.span e) OpenEnd new
    -- "break" | "continue", in a loop
    leave : {w : Token} {new : List Token} → Is w k.Break → HasStmt true (w ∷ new) (node.leave w.span) ClosedEnd new
    proceed : {w : Token} {new : List Token} → Is w k.Continue → HasStmt true (w ∷ new) (node.proceed w.span) ClosedEnd new
    -- "yield" expr
    yield_value : {loop : Bool} {w : Token} {e : T.Expr} {old new : List Token} → Is w k.Yield → HasExpr Disjunction old e new
        → HasStmt loop (w ∷ old) (node.yield_value w.span e) OpenEnd new

  -- branches = "if" expr block { "else" "if" expr block }; with them, where the first `if` begins and the last block ends
  pub data HasBranches : Bool → List Token → ℕ → List T.Branch → ℕ → List Token → Type 0 where
    first_branch : {loop : Bool} {i : Token} {condition : T.Expr} {body : T.Block} {old mid new : List Token} → Is i k.If
        → HasExpr Disjunction old condition mid → HasBlock loop mid body new
        → HasBranches loop (i ∷ old) i.span.from (node.branch i.span condition body ∷ []) (node.block_to body) new
    next_branch : {loop : Bool} {e i : Token} {from to : ℕ} {branches : List T.Branch} {condition : T.Expr} {body : T.Block} {old mid end new : List Token}
        → HasBranches loop old from branches to (e ∷ i ∷ mid) → Is e k.Else → Is i k.If → HasExpr Disjunction mid condition end → HasBlock loop end body new
        → HasBranches loop old from (branches ++ node.branch i.span condition body ∷ []) (node.block_to body) new

  -- One statement or more. Two are separated by `;`, or by the first token of a line.
  pub data HasStmts : Bool → List Token → List T.Stmt → Ending → List Token → Type 0 where
    one_stmt : {loop : Bool} {s : T.Stmt} {ending : Ending} {old new : List Token} → HasStmt loop old s ending new → HasStmts loop old (s ∷ []) ending new
    behind_semicolon : {loop : Bool} {c : Token} {ss : List T.Stmt} {s : T.Stmt} {ending next : Ending} {old mid new : List Token}
        → HasStmts loop old ss ending (c ∷ mid) → Is c k.Semicolon → HasStmt loop mid s next new
        → HasStmts loop old (ss ++ s ∷ []) next new
    on_next_line : {loop : Bool} {t : Token} {ss : List T.Stmt} {s : T.Stmt} {ending next : Ending} {old mid new : List Token}
        → HasStmts loop old ss ending (t ∷ mid) → BeginsNext ending t → HasStmt loop (t ∷ mid) s next new
        → HasStmts loop old (ss ++ s ∷ []) next new

  -- block = "{" { stmt } "}"
  pub data HasBlock : Bool → List Token → T.Block → List Token → Type 0 where
    no_stmts : {loop : Bool} {o c : Token} {new : List Token} → Is o k.LeftBrace → Is c k.RightBrace
        → HasBlock loop (o ∷ c ∷ new) (node.block o.span [] c.span) new
    some_stmts : {loop : Bool} {o c : Token} {ss : List T.Stmt} {ending : Ending} {old new : List Token} → Is o k.LeftBrace
        → HasStmts loop old ss ending (c ∷ new) → Is c k.RightBrace
        → HasBlock loop (o ∷ old) (node.block o.span ss c.span) new
