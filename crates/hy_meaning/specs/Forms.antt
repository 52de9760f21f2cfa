-- The parts of the forms that are built, in the tree of any source.
use Rattle.std.specs.Prelude.{ℕ, Bool, false, List, [], ◌∷◌, Option, Some, None, if◌then◌else◌, codes, bytes_eq}
use Rattle.hy_tree.specs.Tree as T

-- VALUES
-- A value is a sum: a first operand, and operators after it, each with its right operand.

abbrev pub first_of : T.Expr → T.Expr
first_of (T.Chain first links at) = first
first_of e = e

abbrev pub links_of : T.Expr → T.Links
links_of (T.Chain first links at) = links
links_of e = T.NoLink

-- STATEMENTS

-- whether it is the name `print`
abbrev pub is_print : T.Expr → Bool
is_print (T.Named name at) = bytes_eq name.text (codes "print")
is_print e = false

-- the value of one argument without a label
abbrev pub only_value : T.Args → Option T.Expr
only_value (T.ThenArg None value T.NoArg) = Some value
only_value args = None

-- the same of a call's
abbrev pub call_value : T.Step → Option T.Expr
call_value (T.CallStep args at) = only_value args
call_value step = None

-- the same where the call is the only step
abbrev pub only_call : T.Steps → Option T.Expr
only_call (T.ThenStep step T.NoStep) = call_value step
only_call steps = None

-- the value that is printed, if the expression is `print(value)`
abbrev pub printed : T.Expr → Option T.Expr
printed (T.Postfix primary steps at) = if is_print primary then only_call steps else None
printed e = None

-- the name that is assigned to
abbrev pub target_of : T.Expr → List ℕ
target_of (T.Named name at) = name.text
target_of e = []

-- PROGRAMS

abbrev pub stmts_in : T.Block → T.Stmts
stmts_in (T.Braces stmts at) = stmts

abbrev pub body_of : List T.Variant → T.Stmts
body_of [] = T.NoStmt
body_of (variant ∷ more) = stmts_in variant.block

abbrev pub stmts_of : T.DeclKind → T.Stmts
stmts_of (T.DeclCallable c) = body_of c.variants
stmts_of decl = T.NoStmt

-- the statements of `main`, which is the one declaration
abbrev pub main_of : List T.Decl → T.Stmts
main_of [] = T.NoStmt
main_of (decl ∷ more) = stmts_of decl.kind
