-- How small cores are written down.
use Rattle.std.specs.Prelude.{ℕ, zero, suc, false, List, [], ◌∷◌, ◌++◌, Some, None, ℤ, pos}
use Rattle.std.specs.Fmt.{signed_decimal}
use Rattle.hy_base.specs.declared.position.Span.{Span}
use Rattle.hy_base.specs.declared.run.End.{End}
use Rattle.hy_base.specs.declared.run.End.TheVariants as end
use Rattle.hy_types.specs.declared.kinds.TyId.{TyId}
use Rattle.hy_types.specs.declared.kinds.Ty.TheVariants as ty
use Rattle.hy_types.specs.Types.{Table}
use Rattle.hy_core.specs.Plain.{Part, Index, Place, Operator, Push, Print, Stmts, Done, Then, Stmt, Built, Set, Way, ByLet, ByInout, BySet, Parameter, Fun}
use Rattle.hy_core.specs.Plain.{Core}
use Rattle.hy_core.specs.Control.{Ends, Deinitialises, GivesUp}
use Rattle.hy_core.specs.Meaning.{Report, Run}

-- PLACES: a local, its k-th part, and its element by the index in another local

abbrev pub of : ℕ → Place
of l = record { local = l; steps = [] }

abbrev pub part : ℕ → ℕ → Place
part l k = record { local = l; steps = Part k ∷ [] }

-- the j-th part of the k-th part
abbrev pub deep : ℕ → ℕ → ℕ → Place
deep l k j = record { local = l; steps = Part k ∷ Part j ∷ [] }

abbrev pub item : ℕ → ℕ → Place
item l i = record { local = l; steps = Index i 0 ∷ [] }

-- STATEMENTS

abbrev pub stmts : List Stmt → Stmts
stmts [] = Done
stmts (s ∷ ss) = Then s (stmts ss)

abbrev pub print : Place → Stmt
print p = Built Print None (p ∷ []) []

-- stores the result of an operation on some places, which traps at span 1
abbrev pub compute : Operator → (to : ℕ) → List Place → Stmt
compute operator to from = Built operator (Some (of to)) from (1 ∷ [])

-- stores the result of an operation that does not trap
abbrev pub tell : Operator → (to : ℕ) → List Place → Stmt
tell operator to from = Built operator (Some (of to)) from []

abbrev pub push : (to from : ℕ) → Stmt
push to from = Built Push None (of to ∷ of from ∷ []) []

abbrev pub int : (to value : ℕ) → Stmt
int to value = Set (of to) (pos value)

-- TYPES

abbrev pub id : ℕ → TyId
id n = record { at = n }

abbrev pub unit : TyId
unit = id 0

abbrev pub number : TyId
number = id 1

abbrev pub truth : TyId
truth = id 2

-- (Int, Int)
abbrev pub pair : TyId
pair = id 3

abbrev pub numbers : TyId
numbers = id 4

-- type D { var k: Int  deinit { print(k) } }
abbrev pub dying : TyId
dying = id 5

abbrev pub dyings : TyId
dyings = id 6

-- Array<Array<Int>>
abbrev pub rows : TyId
rows = id 7

-- type Tree { var kids: Array<Tree> }
abbrev pub tree : TyId
tree = id 8

abbrev pub trees : TyId
trees = id 9

-- type Two { var a: D  var b: D  deinit { print(0) } }
abbrev pub two : TyId
two = id 10

-- (D, D)
abbrev pub couple : TyId
couple = id 11

-- type Cell { var v: Int }
abbrev pub cell : TyId
cell = id 12

abbrev pub types : Table
types = record {
  types = ty.Tuple [] ∷ ty.Int ∷ ty.Bool ∷ ty.Tuple (number ∷ number ∷ []) ∷ ty.Array number ∷ ty.Product 0 ∷ ty.Array dying ∷ ty.Array numbers ∷ ty.Product 1
      ∷ ty.Array tree ∷ ty.Product 2 ∷ ty.Tuple (dying ∷ dying ∷ []) ∷ ty.Product 3 ∷ [];
  products = (0, number ∷ []) ∷ (1, trees ∷ []) ∷ (2, dying ∷ dying ∷ []) ∷ (3, number ∷ []) ∷ [];
}

-- so many locals of numbers
abbrev pub numbers_for : ℕ → List TyId → List TyId
numbers_for zero ts = ts
numbers_for (suc n) ts = number ∷ numbers_for n ts

-- CORES AND RUNS

-- parameters that are lent, by convention
abbrev pub let_of : TyId → Parameter
let_of t = record { type = t; convention = ByLet }

abbrev pub inout_of : TyId → Parameter
inout_of t = record { type = t; convention = ByInout }

abbrev pub set_of : TyId → Parameter
set_of t = record { type = t; convention = BySet }

abbrev pub fun : (lent : List Parameter) → (owned : List TyId) → (result : TyId) → (locals : List TyId) → List Stmt → Fun
fun lent owned result locals body = record { lent = lent; owned = owned; result = result; locals = locals; yields = None; body = stmts body }

abbrev pub ramp : Way → (lent : List Parameter) → (owned : List TyId) → (result : TyId) → (locals : List TyId) → List Stmt → Fun
ramp way lent owned result locals body = record { lent = lent; owned = owned; result = result; locals = locals; yields = Some way; body = stmts body }

abbrev pub main : (locals : List TyId) → List Stmt → Fun
main locals body = fun [] [] unit locals body

abbrev pub index_span : Span
index_span = record { from = 10; to = 11 }

abbrev pub trap_span : Span
trap_span = record { from = 20; to = 25 }

abbrev pub core : List Fun → Core
core funs = record { types = types; funs = funs; spans = index_span ∷ trap_span ∷ []; deinits = [] }

-- with bodies of deinitialisers: that of D by its place, and that of Two
abbrev pub dying_core : List Fun → (dying two : ℕ) → Core
dying_core funs d t = record {
  types = types;
  funs = funs;
  spans = index_span ∷ trap_span ∷ [];
  deinits =
      record { product = 0; fun = d } ∷ record { product = 2; fun = t } ∷ [];
}

-- of a checked core, and of a core, with no input
abbrev pub checked : Core → (turns : ℕ) → Run
checked c n = record { core = c; stage = GivesUp; cut = false; input = []; turns = n }

abbrev pub unchecked : Core → (turns : ℕ) → Run
unchecked c n = record { core = c; stage = Deinitialises; cut = false; input = []; turns = n }

-- LINES AND REPORTS

abbrev pub lines : List ℤ → List ℕ
lines [] = []
lines (n ∷ ns) = signed_decimal n ++ 10 ∷ lines ns

abbrev pub done : List ℤ → (turns opened : ℕ) → Report
done output turns opened = record { output = lines output; halt = Some (Ends end.Done); taken = 0; turns = turns; opened = opened }

abbrev pub ended : End → List ℤ → (turns opened : ℕ) → Report
ended e output turns opened = record { output = lines output; halt = Some (Ends e); taken = 0; turns = turns; opened = opened }
