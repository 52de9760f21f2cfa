-- The object of a tree. The words of its frame are the accumulator, in which a sum is made, the word of the next operand, and
-- then one word for each variable, in order of declaration.
use Rattle.std.specs.Prelude.{◌≡◌, ℕ, zero, suc, List, [], ◌∷◌, ◌++◌, length, Option, Some, None, pos, if◌then◌else◌, bytes_eq, IsTrue}
use Rattle.hy_base.specs.declared.position.Span.{Span}
use Rattle.hy_base.specs.Numbers.{fits}
use Rattle.hy_tree.specs.Tree as T
use Rattle.hy_meaning.specs.Forms.{first_of, links_of, printed, target_of, main_of}
use Rattle.hy_driver.specs.Scopes.{Scope, with_name}
use Rattle.hy_object.specs.declared.object.Object.{Object}
use Rattle.hy_object.specs.declared.object.Fun.{Fun}
use Rattle.hy_object.specs.declared.instr.Place.{Place}
use Rattle.hy_object.specs.declared.instr.Shown.TheVariants as shown
use Rattle.hy_object.specs.declared.instr.Instr.{Instr}
use Rattle.hy_object.specs.declared.instr.Instr.TheVariants as instr
use Rattle.hy_object.specs.Grammar.{IsCount}

-- how many names stand before this one
abbrev pub place_of : Scope → List ℕ → ℕ
place_of [] name = zero
place_of (x ∷ scope) name = if bytes_eq x name then zero else suc (place_of scope name)

-- the word of the variable at that place
abbrev pub variable : ℕ → ℕ
variable place = suc (suc place)

-- words of the own frame
abbrev pub own : ℕ → Place
own word = record { base = 0; offset = word }

-- An operand goes to a word. A tree that is accepted has no other operands.
abbrev pub load : Scope → ℕ → T.Expr → Instr
load scope to (T.Named name at) = instr.Copy (own to) (own (variable (place_of scope name.text))) 1
load scope to (T.Number n at) = instr.Const to n
load scope to e = instr.Const to (pos 0)

-- The code of each part is put before `rest`. `span` is how many spans there are before it: each `Add` has the next one.
abbrev pub more_code : Scope → ℕ → T.Links → List Instr → List Instr
more_code scope span T.NoLink rest = rest
more_code scope span (T.ThenLink operator token operand at links) rest = load scope 1 operand ∷ instr.Add 0 0 1 span ∷ more_code scope (suc span) links rest

abbrev pub sum_code : Scope → ℕ → T.Expr → List Instr → List Instr
sum_code scope span value rest = load scope 0 (first_of value) ∷ more_code scope span (links_of value) rest

-- the accumulator goes to the variable at that place
abbrev pub store : ℕ → Instr
store place = instr.Move (own (variable place)) (own 0) 1

abbrev pub print_code : Scope → ℕ → Option T.Expr → List Instr → List Instr
print_code scope span None rest = rest
print_code scope span (Some value) rest = sum_code scope span value (instr.Print 0 shown.Int ∷ rest)

-- A tree that is accepted has no other statements.
abbrev pub stmt_code : Scope → ℕ → T.Stmt → List Instr → List Instr
stmt_code scope span (T.Binding introducer name written value at) rest = sum_code scope span value (store (length scope) ∷ rest)
stmt_code scope span (T.Assign target value at) rest = sum_code scope span value (store (place_of scope (target_of target)) ∷ rest)
stmt_code scope span (T.Evaluate e at) rest = print_code scope span (printed e) rest
stmt_code scope span stmt rest = rest

abbrev pub printed_links : Option T.Expr → T.Links
printed_links None = T.NoLink
printed_links (Some value) = links_of value

-- the operators of a statement's value
abbrev pub links_in : T.Stmt → T.Links
links_in (T.Binding introducer name written value at) = links_of value
links_in (T.Assign target value at) = links_of value
links_in (T.Evaluate e at) = printed_links (printed e)
links_in stmt = T.NoLink

abbrev pub spans_after : ℕ → T.Links → ℕ
spans_after span T.NoLink = span
spans_after span (T.ThenLink operator token operand at links) = spans_after (suc span) links

-- the names after a statement
abbrev pub declares : Scope → T.Stmt → Scope
declares scope (T.Binding introducer name written value at) = with_name scope name.text
declares scope stmt = scope

abbrev pub block_code : Scope → ℕ → T.Stmts → List Instr → List Instr
block_code scope span T.NoStmt rest = rest
block_code scope span (T.ThenStmt s stmts) rest = stmt_code scope span s (block_code (declares scope s) (spans_after span (links_in s)) stmts rest)

-- the spans of a sum's operators
abbrev pub more_spans : T.Links → List Span → List Span
more_spans T.NoLink rest = rest
more_spans (T.ThenLink operator token operand at links) rest = at.span ∷ more_spans links rest

abbrev pub stmt_spans : T.Stmt → List Span → List Span
stmt_spans s rest = more_spans (links_in s) rest

abbrev pub block_spans : T.Stmts → List Span → List Span
block_spans T.NoStmt rest = rest
block_spans (T.ThenStmt s stmts) rest = stmt_spans s (block_spans stmts rest)

-- the names after a block
abbrev pub declared : Scope → T.Stmts → Scope
declared scope T.NoStmt = scope
declared scope (T.ThenStmt s stmts) = declared (declares scope s) stmts

abbrev pub main_code : T.Stmts → List Instr
main_code stmts = block_code [] 0 stmts (instr.Return 0 ∷ [])

abbrev pub main_fun : T.Stmts → Fun
main_fun stmts = record { accesses = 0; owned = 0; result = 0; words = variable (length (declared [] stmts)); slots = 0; code = main_code stmts }

abbrev pub lowered : T.Program → Object
lowered tree = record { spans = block_spans (main_of tree.decls) []; funs = main_fun (main_of tree.decls) ∷ [] }

-- what was appended to a list, as a function of what comes after it
abbrev pub Extends : {A : Type 0} → List A → List A → (List A → List A) → Type 0
Extends {A} old new front = (rest : List A) → new ++ rest ≡ old ++ front rest

-- the numbers of an instruction that is put are of 32 and 64 bits, as the program's are
abbrev pub IsSized : Instr → Type 0
IsSized (instr.Const to value) = IsTrue (fits value)
IsSized (instr.Copy to from words) = IsCount to.offset × IsCount from.offset
IsSized (instr.Move to from words) = IsCount to.offset × IsCount from.offset
IsSized _ = Unit {0}
