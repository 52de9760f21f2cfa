-- What a function that reads a part of a block ensures.
use Rattle.std.specs.Prelude.{◌≡◌, ◌+◌, ℕ, Bool, Option, Some, None, Result, List, [], ◌∷◌, ◌++◌}
use Rattle.hy_base.specs.declared.position.Span.{Span}
use Rattle.hy_lexer.specs.declared.token.Token.{Token}
use Rattle.hy_tree.specs.Denotes.{stmt_of, block_of}
use Rattle.hy_tree.specs.Tree as T
use Rattle.hy_tree.specs.declared.statement.Block.{Block}
use Rattle.hy_tree.specs.declared.statement.Stmt.{Stmt}
use Rattle.hy_grammar.specs.Kinds.{left_brace}
use Rattle.hy_grammar.specs.Machine.{step, finish}
use Rattle.hy_phrases.specs.Reads.{Reads}
use Rattle.hy_grammar.specs.Stack.{Place, State, BlockOpened, StmtWanted, StmtRead, depth, depth_place, in_loop}
use Rattle.hy_grammar.specs.StmtSteps.{blocked, brace_of, close}
use Rattle.hy_phrases.specs.declared.stop.Stop.{Stop}

-- where a statement stands: after these, in that block
pub record Site : Type 0 where
  pub before : List T.Stmt
  pub place : Place

-- the same, where a `break` may stand or not
pub record LoopSite (looping : Bool) : Type 0 where
  pub site : Site
  pub loops : in_loop site.place ≡ looping

-- a block that is opened by this brace
pub record Opened (brace : Span) (looping : Bool) : Type 0 where
  pub place : Place
  pub opens : brace_of place ≡ brace
  pub loops : in_loop place ≡ looping

-- whose block is to come, of which the first of these tokens is the brace, and what comes after it
pub record Braces (looping : Bool) (old : List Token) : Type 0 where
  pub need : State
  pub place : Span → Place
  pub behind : T.Block → State
  pub begins : (t : Token) (ts : List Token) → old ≡ t ∷ ts → (n : ℕ) → step need t n ≡ left_brace t.kind (BlockOpened (place t.span))
  pub ends : (total : ℕ) → finish need total ≡ None
  pub opens : (brace : Span) → brace_of (place brace) ≡ brace
  pub level : (brace : Span) → depth_place (place brace) ≡ depth need + 1
  pub loops : (brace : Span) → in_loop (place brace) ≡ looping
  pub closes : (block : T.Block) (brace : Span) → blocked block (place brace) ≡ behind block

-- the state after a statement
abbrev pub with_stmt : T.Stmt → Site → State
with_stmt stmt x = StmtRead (x.before ++ stmt ∷ []) x.place

abbrev pub ReadsStmt : ℕ → (Site → State) → List Token → Result Stmt Stop → List Token → Type 0
ReadsStmt levels need = Reads levels stmt_of need with_stmt

-- a statement in which blocks may stand
abbrev pub ReadsStmtIn : Bool → ℕ → (Site → State) → List Token → Result Stmt Stop → List Token → Type 0
ReadsStmtIn looping levels need = Reads {X = LoopSite looping} levels stmt_of (λ x. need x.site) (λ stmt x. with_stmt stmt x.site)

-- a block after its brace
abbrev pub ReadsBlock : Span → Bool → ℕ → List Token → Result Block Stop → List Token → Type 0
ReadsBlock brace looping levels = Reads {X = Opened brace looping} levels block_of (λ x. BlockOpened x.place) (λ block x. blocked block x.place)

-- a block with its braces
abbrev pub ReadsBraces : Bool → ℕ → List Token → Result Block Stop → List Token → Type 0
ReadsBraces looping levels old = Reads {X = Braces looping old} levels block_of (λ x. x.need) (λ block x. x.behind block) old

-- after what stands after a statement: a `}`, or what separates it from the next
abbrev pub separated : Option Span → Site → State
separated (Some t) x = close x.before x.place t
separated None x = StmtWanted x.before x.place

abbrev pub ReadsSeparator : List Token → Result (Option Span) Stop → List Token → Type 0
ReadsSeparator old result new = (levels : ℕ) → Reads {X = Site} levels (λ found. found) (λ x. StmtRead x.before x.place) separated old result new
