-- What paths through statements yield, computed: whether one yields nothing or something, and which tokens stand on one.
use Rattle.std.specs.Prelude.{◌≡◌, ◌↔◌, ◌&&◌, ◌||◌, Bool as Truth, true, false, not, List, [], ◌∷◌, ◌++◌, cond}
use Rattle.hy_base.specs.declared.position.Span.{Span}
use Rattle.hy_tree.specs.Tree as T
use Rattle.hy_conv.specs.Paths.{Ending, Falls, Returns, Breaks, Continues, falls, returns, breaks, continues, ThroughBlock, Has, IsLater}

abbrev mutual
  -- a path without `yield` ends so
  pub silent : Ending → T.Stmt → Truth
  silent e (T.Binding introducer name written value at) = falls e
  silent e (T.Declare name written at) = falls e
  silent e (T.Assign target value at) = falls e
  silent e (T.Compound target operator value at) = falls e
  silent e (T.Evaluate value at) = falls e
  silent e (T.If branches otherwise at) = silent_branches e branches || silent_otherwise e otherwise
  silent e (T.While token condition body at) = falls e || (returns e && silent_block Returns body)
  silent e (T.Return token value at) = returns e
  silent e (T.Break at) = breaks e
  silent e (T.Continue at) = continues e
  silent e (T.Yield token value at) = false

  pub silent_all : Ending → T.Stmts → Truth
  silent_all e T.NoStmt = falls e
  silent_all e (T.ThenStmt s more) = (not (falls e) && silent e s) || (silent Falls s && silent_all e more)

  pub silent_block : Ending → T.Block → Truth
  silent_block e (T.Braces stmts at) = silent_all e stmts

  pub silent_branches : Ending → T.Branches → Truth
  silent_branches e T.NoBranch = false
  silent_branches e (T.ThenBranch token condition body more) = silent_block e body || silent_branches e more

  pub silent_otherwise : Ending → T.Otherwise → Truth
  silent_otherwise e T.NoElse = falls e
  silent_otherwise e (T.Else body) = silent_block e body

abbrev mutual
  -- a path with a `yield` ends so
  pub yielding : Ending → T.Stmt → Truth
  yielding e (T.Binding introducer name written value at) = false
  yielding e (T.Declare name written at) = false
  yielding e (T.Assign target value at) = false
  yielding e (T.Compound target operator value at) = false
  yielding e (T.Evaluate value at) = false
  yielding e (T.If branches otherwise at) = yielding_branches e branches || yielding_otherwise e otherwise
  yielding e (T.While token condition body at) =
      (falls e && ((yielding_block Falls body || yielding_block Continues body) || yielding_block Breaks body))
      || (returns e && (yielding_block Returns body || ((yielding_block Falls body || yielding_block Continues body) && silent_block Returns body)))
  yielding e (T.Return token value at) = false
  yielding e (T.Break at) = false
  yielding e (T.Continue at) = false
  yielding e (T.Yield token value at) = falls e

  pub yielding_all : Ending → T.Stmts → Truth
  yielding_all e T.NoStmt = false
  yielding_all e (T.ThenStmt s more) =
      (not (falls e) && yielding e s) || ((yielding Falls s && (silent_all e more || yielding_all e more)) || (silent Falls s && yielding_all e more))

  pub yielding_block : Ending → T.Block → Truth
  yielding_block e (T.Braces stmts at) = yielding_all e stmts

  pub yielding_branches : Ending → T.Branches → Truth
  yielding_branches e T.NoBranch = false
  yielding_branches e (T.ThenBranch token condition body more) = yielding_block e body || yielding_branches e more

  pub yielding_otherwise : Ending → T.Otherwise → Truth
  yielding_otherwise e T.NoElse = false
  yielding_otherwise e (T.Else body) = yielding_block e body

-- a pass of a loop with a `yield` ends so that another may follow
abbrev pub yielding_round : T.Block → Truth
yielding_round body = yielding_block Falls body || yielding_block Continues body

-- some path comes to the end of the statement
abbrev pub goes_on : T.Stmt → Truth
goes_on s = silent Falls s || yielding Falls s

abbrev mutual
  -- the tokens on paths
  pub met : T.Stmt → List Span
  met (T.Binding introducer name written value at) = []
  met (T.Declare name written at) = []
  met (T.Assign target value at) = []
  met (T.Compound target operator value at) = []
  met (T.Evaluate value at) = []
  met (T.If branches otherwise at) = met_branches branches ++ met_otherwise otherwise
  met (T.While token condition body at) = met_block body
  met (T.Return token value at) = []
  met (T.Break at) = []
  met (T.Continue at) = []
  met (T.Yield token value at) = token ∷ []

  pub met_all : T.Stmts → List Span
  met_all T.NoStmt = []
  met_all (T.ThenStmt s more) = met s ++ cond (goes_on s) (met_all more) []

  pub met_block : T.Block → List Span
  met_block (T.Braces stmts at) = met_all stmts

  pub met_branches : T.Branches → List Span
  met_branches T.NoBranch = []
  met_branches (T.ThenBranch token condition body more) = met_block body ++ met_branches more

  pub met_otherwise : T.Otherwise → List Span
  met_otherwise T.NoElse = []
  met_otherwise (T.Else body) = met_block body

abbrev mutual
  -- the tokens on paths that have a `yield` before
  pub later : T.Stmt → List Span
  later (T.Binding introducer name written value at) = []
  later (T.Declare name written at) = []
  later (T.Assign target value at) = []
  later (T.Compound target operator value at) = []
  later (T.Evaluate value at) = []
  later (T.If branches otherwise at) = later_branches branches ++ later_otherwise otherwise
  later (T.While token condition body at) = later_block body ++ cond (yielding_round body) (met_block body) []
  later (T.Return token value at) = []
  later (T.Break at) = []
  later (T.Continue at) = []
  later (T.Yield token value at) = []

  pub later_all : T.Stmts → List Span
  later_all T.NoStmt = []
  later_all (T.ThenStmt s more) = later s ++ (cond (yielding Falls s) (met_all more) [] ++ cond (goes_on s) (later_all more) [])

  pub later_block : T.Block → List Span
  later_block (T.Braces stmts at) = later_all stmts

  pub later_branches : T.Branches → List Span
  later_branches T.NoBranch = []
  later_branches (T.ThenBranch token condition body more) = later_block body ++ later_branches more

  pub later_otherwise : T.Otherwise → List Span
  later_otherwise T.NoElse = []
  later_otherwise (T.Else body) = later_block body

-- What is computed is so of the paths themselves.
pub record IsOfPaths (body : T.Block) : Type 0 where
  pub silent : (e : Ending) → (silent_block e body ≡ true) ↔ ThroughBlock body [] e
  pub later : (token : Span) → Has token (later_block body) ↔ ((tokens : List Span) × (e : Ending) × ThroughBlock body tokens e × IsLater token tokens)
