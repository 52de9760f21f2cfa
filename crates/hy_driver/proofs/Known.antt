-- Each variable is declared once, and before its first use.
use Rattle.std.proofs.Common.{◌≡◌, [], ◌∷◌, ◌++◌, Option, Some, None, Contains}
use Rattle.hy_tree.specs.Tree as T
use Rattle.hy_meaning.specs.Forms.{first_of, links_of, printed, target_of}
use Rattle.hy_driver.specs.Lower.{declares}
use Rattle.hy_driver.specs.Scopes.{Scope, with_name}

abbrev pub Knows : Scope → T.Expr → Type 0
Knows scope (T.Named name at) = Contains scope name.text
Knows scope e = Unit {0}

abbrev pub KnowsAll : Scope → T.Links → Type 0
KnowsAll scope T.NoLink = Unit {0}
KnowsAll scope (T.ThenLink operator token operand at links) = Knows scope operand × KnowsAll scope links

abbrev pub KnowsSum : Scope → T.Expr → Type 0
KnowsSum scope value = Knows scope (first_of value) × KnowsAll scope (links_of value)

abbrev pub KnowsPrinted : Scope → Option T.Expr → Type 0
KnowsPrinted scope None = Unit {0}
KnowsPrinted scope (Some value) = KnowsSum scope value

abbrev pub IsNamedStmt : Scope → T.Stmt → Type 0
IsNamedStmt scope (T.Binding introducer name written value at) = (with_name scope name.text ≡ scope ++ name.text ∷ []) × KnowsSum scope value
IsNamedStmt scope (T.Assign target value at) = Contains scope (target_of target) × KnowsSum scope value
IsNamedStmt scope (T.Evaluate e at) = KnowsPrinted scope (printed e)
IsNamedStmt scope stmt = Unit {0}

abbrev pub IsNamed : Scope → T.Stmts → Type 0
IsNamed scope T.NoStmt = Unit {0}
IsNamed scope (T.ThenStmt s stmts) = IsNamedStmt scope s × IsNamed (declares scope s) stmts
