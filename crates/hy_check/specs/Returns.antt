-- Paths through statements that come to their end. Conditions are ignored: each branch may be taken, and a loop may run not at all.
use Rattle.std.specs.Prelude.{◌&&◌, ◌||◌, Bool as Truth, true, false}
use Rattle.hy_tree.specs.Tree as T

-- whether a path goes on after the statement
abbrev mutual
  pub goes_on : T.Stmt → Truth
  goes_on (T.If branches otherwise at) = some_goes_on branches || other_goes_on otherwise
  goes_on (T.Return token value at) = false
  goes_on (T.Break at) = false
  goes_on (T.Continue at) = false
  goes_on (T.While token condition body at) = true
  goes_on (T.Binding introducer name written value at) = true
  goes_on (T.Declare name written at) = true
  goes_on (T.Assign target value at) = true
  goes_on (T.Compound target operator value at) = true
  goes_on (T.Evaluate value at) = true
  goes_on (T.Yield token value at) = true

  pub all_go_on : T.Stmts → Truth
  all_go_on T.NoStmt = true
  all_go_on (T.ThenStmt stmt more) = goes_on stmt && all_go_on more

  pub ends : T.Block → Truth
  ends (T.Braces stmts at) = all_go_on stmts

  pub some_goes_on : T.Branches → Truth
  some_goes_on T.NoBranch = false
  some_goes_on (T.ThenBranch token condition body more) = ends body || some_goes_on more

  -- without an `else`, no branch need be taken
  pub other_goes_on : T.Otherwise → Truth
  other_goes_on T.NoElse = true
  other_goes_on (T.Else body) = ends body
