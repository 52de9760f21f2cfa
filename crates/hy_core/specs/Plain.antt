-- A core program as plain data: a table of types, and functions as flat statements over numbered locals.
use Rattle.std.specs.Prelude.{ℕ, ℤ, Bool, true, false, List, Option, Some, None, map}
use Rattle.hy_base.specs.declared.numbers.IntegerType.{IntegerType}
use Rattle.hy_base.specs.declared.position.Span.{Span}
use Rattle.hy_types.specs.declared.kinds.TyId.{TyId}
use Rattle.hy_types.specs.Types.{Table}

-- PLACES

-- a field or tuple part, or an element: the local that holds its index, and the span of the trap
pub data Step : Type 0 where
  Part : ℕ → Step
  Index : (local span : ℕ) → Step

-- a place in a local
pub record Place : Type 0 where
  pub local : ℕ
  pub steps : List Step

-- STATEMENTS

pub data Operator : Type 0 where
  Add : Operator
  Sub : Operator
  Mul : Operator
  Div : Operator
  Rem : Operator
  Neg : Operator
  Convert : IntegerType → Operator
  Eq : Operator
  Lt : Operator
  Le : Operator
  Not : Operator
  NewArray : Operator
  Push : Operator
  Pop : Operator
  Swap : Operator
  Count : Operator
  FreeArray : Operator
  Print : Operator
  Read : Operator
  Check : Operator

mutual
  pub data Stmts : Type 0 where
    Done : Stmts
    Then : Stmt → Stmts → Stmts

  -- A local stands by its number, a span by its place in the list of the core. `docs/CORE.md` says what each does.
  pub data Stmt : Type 0 where
    Built : Operator → (to : Option Place) → (from : List Place) → (spans : List ℕ) → Stmt
    Set : (to : Place) → ℤ → Stmt
    Lend : (to : ℕ) → Place → (write : Bool) → Stmt
    Close : (of : ℕ) → Stmt
    Move : (to from : Place) → Stmt
    Copy : (to from : Place) → Stmt
    Drop : Place → Stmt
    Call : (fun : ℕ) → (lent : List ℕ) → (owned : List Place) → (to : Place) → Stmt
    Project : (fun : ℕ) → (lent : List ℕ) → (owned : List Place) → (to : ℕ) → Stmt
    Slide : (of : ℕ) → Stmt
    Yield : (of : ℕ) → Stmt
    If : (on : ℕ) → (yes' no' : Stmts) → Stmt
    While : (head : Stmts) → (on : ℕ) → (body : Stmts) → Stmt
    Break : Stmt
    Continue : Stmt
    Leave : (from : Place) → Stmt

-- FUNCTIONS

-- for reading, or for change
pub data Way : Type 0 where
  Reads : Way
  Writes : Way

-- How a place is lent to a parameter: for reading, set before and after (`ByLet`); for change, set before and after
-- (`ByInout`); or for change, unset before and set after (`BySet`).
pub data Convention : Type 0 where
  ByLet : Convention
  ByInout : Convention
  BySet : Convention

pub record Parameter : Type 0 where
  pub type : TyId
  pub convention : Convention

-- The locals are the parameters that are lent, then the owned ones, then the others. The result is the type of what a `Leave`
-- hands out, or in a ramp of what it yields; `yields` is the way of that.
pub record Fun : Type 0 where
  pub lent : List Parameter
  pub owned : List TyId
  pub result : TyId
  pub locals : List TyId
  pub yields : Option Way
  pub body : Stmts

abbrev pub types_of : List Parameter → List TyId
types_of = map (λ a. a.type)

abbrev pub lent_types : Fun → List TyId
lent_types f = types_of f.lent

abbrev pub some_way : Option Way → Bool
some_way None = false
some_way (Some w) = true

-- the body of a subscript
abbrev pub is_ramp : Fun → Bool
is_ramp f = some_way f.yields

-- the body of a product's deinitialiser, by its place among the functions
pub record Deinit : Type 0 where
  pub product : ℕ
  pub fun : ℕ

pub record Core : Type 0 where
  pub types : Table
  pub funs : List Fun
  pub spans : List Span
  pub deinits : List Deinit
