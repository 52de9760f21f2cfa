-- The shape of a core: what its statements name is there and has the type that they want, and each path through a body ends.
use Rattle.std.specs.Prelude.{◌≡◌, ◌⊎◌, ◌≤◌, ◌<◌, ℕ, Bool, true, false, List, [], ◌∷◌, ◌++◌, length, Option, Some, None, slice_get, ℤ, pos}
use Rattle.hy_base.specs.declared.numbers.IntegerType.{IntegerType}
use Rattle.hy_base.specs.declared.numbers.IntegerType.TheVariants.{Int}
use Rattle.hy_base.specs.Numbers.{is_in, is_signed}
use Rattle.hy_types.specs.declared.kinds.TyId.{TyId}
use Rattle.hy_types.specs.Words.{HasWords}
use Rattle.hy_core.specs.Plain.{Step, Part, Index, Place, Operator, Add, Sub, Mul, Div, Rem, Neg, Convert, Eq, Lt, Le, Not, NewArray, Push, Pop, Swap}
use Rattle.hy_core.specs.Plain.{Count, FreeArray, Print, Read, Check, Stmts, Done, Then, Stmt, Built, Set, Lend, Close, Move, Copy, Drop, Call, Project}
use Rattle.hy_core.specs.Plain.{Slide, Yield, If, While, Break, Continue, Leave, ByInout, Fun, lent_types, is_ramp, Deinit, Core}
use Rattle.hy_core.specs.Control.{Form, Numbers, Flags, Tuples, Products, Arrays, Unknown, form, local_type}
use Rattle.hy_core.specs.Typing.{Among, all, Distinct, place_type, IsSmall}

-- PATHS THROUGH A BODY

-- `GoesAll ramp ss y next breaks again`: on each path through these statements, where `y` says whether the `Yield` has come,
-- it comes nowhere but in a ramp and only once, a `Leave` stands only where all is done, and what follows is as the three
-- say: after the statements, after the innermost loop, and at its next pass. Nothing follows a `Leave`. Conditions are
-- ignored.
abbrev mutual
  pub GoesAll : (ramp : Bool) → Stmts → (y : Bool) → (next breaks again : Bool → Type 0) → Type 0
  GoesAll ramp Done y next breaks again = next y
  GoesAll ramp (Then s ss) y next breaks again = Goes ramp s y (λ z. GoesAll ramp ss z next breaks again) breaks again

  pub Goes : (ramp : Bool) → Stmt → (y : Bool) → (next breaks again : Bool → Type 0) → Type 0
  Goes ramp (Built operator to from spans) y next breaks again = next y
  Goes ramp (Set to n) y next breaks again = next y
  Goes ramp (Lend to place w) y next breaks again = next y
  Goes ramp (Close l) y next breaks again = next y
  Goes ramp (Move to from) y next breaks again = next y
  Goes ramp (Copy to from) y next breaks again = next y
  Goes ramp (Drop place) y next breaks again = next y
  Goes ramp (Call n lent owned to) y next breaks again = next y
  Goes ramp (Project n lent owned to) y next breaks again = next y
  Goes ramp (Slide l) y next breaks again = next y
  Goes ramp (Yield l) y next breaks again = (ramp ≡ true) × (y ≡ false) × next true
  Goes ramp (If on a b) y next breaks again = GoesAll ramp a y next breaks again × GoesAll ramp b y next breaks again
  Goes ramp (While head on body) y next breaks again =
      GoesAll ramp head y (λ z. (z ≡ y) × next z × GoesAll ramp body z (λ u. u ≡ y) next (λ u. u ≡ y)) (λ z. ⊥) (λ z. ⊥)
  Goes ramp Break y next breaks again = breaks y
  Goes ramp Continue y next breaks again = again y
  Goes ramp (Leave from) y next breaks again = y ≡ ramp

-- WHAT A BODY NAMES

-- the locals that a `Lend` or `Project` fills
abbrev mutual
  pub filled_by : Stmts → List ℕ
  filled_by Done = []
  filled_by (Then s ss) = filled s ++ filled_by ss

  pub filled : Stmt → List ℕ
  filled (Built operator to from spans) = []
  filled (Set to n) = []
  filled (Lend to place w) = to ∷ []
  filled (Close l) = []
  filled (Move to from) = []
  filled (Copy to from) = []
  filled (Drop place) = []
  filled (Call n lent owned to) = []
  filled (Project n lent owned to) = to ∷ []
  filled (Slide l) = []
  filled (Yield l) = []
  filled (If on a b) = filled_by a ++ filled_by b
  filled (While head on body) = filled_by head ++ filled_by body
  filled Break = []
  filled Continue = []
  filled (Leave from) = []

-- the lists of locals that are handed over
abbrev mutual
  pub handed_by : Stmts → List (List ℕ)
  handed_by Done = []
  handed_by (Then s ss) = handed s ++ handed_by ss

  pub handed : Stmt → List (List ℕ)
  handed (Built operator to from spans) = []
  handed (Set to n) = []
  handed (Lend to place w) = []
  handed (Close l) = []
  handed (Move to from) = []
  handed (Copy to from) = []
  handed (Drop place) = []
  handed (Call n lent owned to) = lent ∷ []
  handed (Project n lent owned to) = lent ∷ []
  handed (Slide l) = []
  handed (Yield l) = []
  handed (If on a b) = handed_by a ++ handed_by b
  handed (While head on body) = handed_by head ++ handed_by body
  handed Break = []
  handed Continue = []
  handed (Leave from) = []

-- TYPES

module _ (core : Core) (f : Fun) where
  abbrev pub HasForm : ℕ → Form → Type 0
  HasForm l x = (t : TyId) × (local_type f l ≡ Some t) × (form core.types t ≡ x)

  abbrev pub IsSpan : ℕ → Type 0
  IsSpan s = s < length core.spans

  -- The local of an index is an `Int` of the body's own, and no `Lend` or `Project` fills it.
  abbrev pub IsStep : Step → Type 0
  IsStep (Part i) = Unit {0}
  IsStep (Index l s) = HasForm l (Numbers Int) × (length (lent_types f) ≤ l) × (Among l (filled_by f.body) → ⊥) × IsSpan s

  -- the place is there, and has that type
  abbrev pub IsOf : TyId → Place → Type 0
  IsOf t p = (place_type core.types f p ≡ Some t) × all IsStep p.steps

  abbrev pub IsOfForm : Form → Place → Type 0
  IsOfForm x p = (t : TyId) × IsOf t p × (form core.types t ≡ x)

  -- places of these types, in order
  abbrev pub AreOf : List TyId → List Place → Type 0
  AreOf [] [] = Unit {0}
  AreOf [] (p ∷ ps) = ⊥
  AreOf (t ∷ ts) [] = ⊥
  AreOf (t ∷ ts) (p ∷ ps) = IsOf t p × AreOf ts ps

  abbrev pub LocalsAre : List TyId → List ℕ → Type 0
  LocalsAre [] [] = Unit {0}
  LocalsAre [] (l ∷ ls) = ⊥
  LocalsAre (t ∷ ts) [] = ⊥
  LocalsAre (t ∷ ts) (l ∷ ls) = (local_type f l ≡ Some t) × LocalsAre ts ls

  -- OPERATIONS

  abbrev pub Stores : Option Place → (Place → Type 0) → Type 0
  Stores None P = ⊥
  Stores (Some to) P = P to

  abbrev pub StoresNothing : Option Place → Type 0
  StoresNothing None = Unit {0}
  StoresNothing (Some to) = ⊥

  abbrev pub One : {A : Type 0} → List A → (A → Type 0) → Type 0
  One [] P = ⊥
  One (x ∷ []) P = P x
  One (x ∷ (y ∷ ys)) P = ⊥

  abbrev pub Two : {A : Type 0} → List A → (A → A → Type 0) → Type 0
  Two [] P = ⊥
  Two (x ∷ xs) P = One xs (P x)

  abbrev pub Three : {A : Type 0} → List A → (A → A → A → Type 0) → Type 0
  Three [] P = ⊥
  Three (x ∷ xs) P = Two xs (P x)

  -- from two integers of one type, with one span or none, to that type or a truth value
  abbrev pub Arithmetic : Option Place → List Place → List ℕ → Type 0
  Arithmetic to from spans =
      (t : IntegerType) × Stores to (IsOfForm (Numbers t)) × Two from (λ a b. IsOfForm (Numbers t) a × IsOfForm (Numbers t) b) × One spans IsSpan

  abbrev pub Compares : Option Place → List Place → List ℕ → Type 0
  Compares to from spans =
      Stores to (IsOfForm Flags) × Two from (λ a b. (t : IntegerType) × IsOfForm (Numbers t) a × IsOfForm (Numbers t) b) × (spans ≡ [])

  -- an integer or a truth value
  abbrev pub IsPlain : Form → Type 0
  IsPlain x = ((t : IntegerType) × (x ≡ Numbers t)) ⊎ (x ≡ Flags)

  abbrev pub IsBuilt : Operator → Option Place → List Place → List ℕ → Type 0
  IsBuilt Add to from spans = Arithmetic to from spans
  IsBuilt Sub to from spans = Arithmetic to from spans
  IsBuilt Mul to from spans = Arithmetic to from spans
  IsBuilt Div to from spans = Arithmetic to from spans
  IsBuilt Rem to from spans = Arithmetic to from spans
  IsBuilt Neg to from spans =
      (t : IntegerType) × (is_signed t ≡ true) × Stores to (IsOfForm (Numbers t)) × One from (IsOfForm (Numbers t)) × One spans IsSpan
  IsBuilt (Convert t) to from spans = Stores to (IsOfForm (Numbers t)) × One from (λ a. (u : IntegerType) × IsOfForm (Numbers u) a) × One spans IsSpan
  IsBuilt Eq to from spans = Stores to (IsOfForm Flags) × Two from (λ a b. (x : Form) × IsPlain x × IsOfForm x a × IsOfForm x b) × (spans ≡ [])
  IsBuilt Lt to from spans = Compares to from spans
  IsBuilt Le to from spans = Compares to from spans
  IsBuilt Not to from spans = Stores to (IsOfForm Flags) × One from (IsOfForm Flags) × (spans ≡ [])
  IsBuilt NewArray to from spans = Stores to (λ p. (t : TyId) × IsOfForm (Arrays t) p) × (from ≡ []) × (spans ≡ [])
  IsBuilt Push to from spans = StoresNothing to × Two from (λ array a. (t : TyId) × IsOfForm (Arrays t) array × IsOf t a) × (spans ≡ [])
  IsBuilt Pop to from spans = One from (λ array. (t : TyId) × IsOfForm (Arrays t) array × Stores to (IsOf t)) × One spans IsSpan
  IsBuilt Swap to from spans =
      StoresNothing to × Three from (λ array a b. (t : TyId) × IsOfForm (Arrays t) array × IsOfForm (Numbers Int) a × IsOfForm (Numbers Int) b)
      × Two spans (λ s t. IsSpan s × IsSpan t)
  IsBuilt Count to from spans = Stores to (IsOfForm (Numbers Int)) × One from (λ array. (t : TyId) × IsOfForm (Arrays t) array) × (spans ≡ [])
  IsBuilt FreeArray to from spans = StoresNothing to × One from (λ array. (t : TyId) × IsOfForm (Arrays t) array) × (spans ≡ [])
  IsBuilt Print to from spans = StoresNothing to × One from (λ a. (x : Form) × IsPlain x × IsOfForm x a) × (spans ≡ [])
  IsBuilt Read to from spans = Stores to (IsOfForm (Numbers Int)) × (from ≡ []) × One spans IsSpan
  IsBuilt Check to from spans = StoresNothing to × One from (IsOfForm Flags) × One spans IsSpan

  -- an integer of the type; 1 or 0 for a truth value; 0 for the empty tuple, or a product without fields
  abbrev pub IsConstant : Form → ℤ → Type 0
  IsConstant (Numbers t) n = is_in t n ≡ true
  IsConstant Flags n = (n ≡ pos 0) ⊎ (n ≡ pos 1)
  IsConstant (Tuples parts) n = (parts ≡ []) × (n ≡ pos 0)
  IsConstant (Products d parts) n = (parts ≡ []) × (n ≡ pos 0)
  IsConstant (Arrays t) n = ⊥
  IsConstant Unknown n = ⊥

  -- a function that is a ramp or is none takes these, and gives this
  abbrev pub Takes : (ramp : Bool) → ℕ → List ℕ → List Place → (TyId → Type 0) → Type 0
  Takes ramp n lent owned Gives =
      (k : Fun) × (slice_get core.funs n ≡ Some k) × (is_ramp k ≡ ramp) × LocalsAre (lent_types k) lent × AreOf k.owned owned × Gives k.result
      × all (λ l. length (lent_types f) ≤ l) lent × Distinct lent

  -- what a `Leave` hands out: the result, and in a ramp nothing
  abbrev pub Leaves : (ramp : Bool) → TyId → Type 0
  Leaves true t = HasWords core.types t 0
  Leaves false t = t ≡ f.result

  abbrev mutual
    pub ShapedAll : Stmts → Type 0
    ShapedAll Done = Unit {0}
    ShapedAll (Then s ss) = IsShaped s × ShapedAll ss

    pub IsShaped : Stmt → Type 0
    IsShaped (Built operator to from spans) = IsBuilt operator to from spans
    IsShaped (Set to n) = (t : TyId) × IsOf t to × IsConstant (form core.types t) n
    IsShaped (Lend to place w) = (t : TyId) × (local_type f to ≡ Some t) × IsOf t place
    IsShaped (Close l) = (t : TyId) × (local_type f l ≡ Some t)
    IsShaped (Move to from) = (t : TyId) × IsOf t to × IsOf t from
    IsShaped (Copy to from) = (t : TyId) × IsOf t to × IsOf t from
    IsShaped (Drop place) = (t : TyId) × IsOf t place
    IsShaped (Call n lent owned to) = Takes false n lent owned (λ t. IsOf t to)
    IsShaped (Project n lent owned to) = Takes true n lent owned (λ t. local_type f to ≡ Some t)
    IsShaped (Slide l) = (t : TyId) × (local_type f l ≡ Some t)
    IsShaped (Yield l) = local_type f l ≡ Some f.result
    IsShaped (If on a b) = HasForm on Flags × ShapedAll a × ShapedAll b
    IsShaped (While head on body) = ShapedAll head × HasForm on Flags × ShapedAll body
    IsShaped Break = Unit {0}
    IsShaped Continue = Unit {0}
    IsShaped (Leave from) = (t : TyId) × IsOf t from × Leaves (is_ramp f) t

-- Each path through the body ends in a `Leave`, with one `Yield` before it in a ramp and none in any other body. One statement
-- at most fills a local by a `Lend` or `Project`. Two lists of locals that are handed over and share a local are equal.
pub record IsShapedFun (core : Core) (f : Fun) : Type 0 where
  pub small : all (IsSmall core.types) (lent_types f ++ (f.owned ++ (f.locals ++ f.result ∷ [])))
  pub body : ShapedAll core f f.body
  pub paths : GoesAll (is_ramp f) f.body false (λ y. ⊥) (λ y. ⊥) (λ y. ⊥)
  pub filled : Distinct (filled_by f.body)
  pub handed : (l : ℕ) (a b : List ℕ) → Among a (handed_by f.body) → Among b (handed_by f.body) → Among l a → Among l b → a ≡ b

-- the function takes and gives nothing, and is no ramp
pub record IsMain (core : Core) (f : Fun) : Type 0 where
  pub ramp : is_ramp f ≡ false
  pub lent : f.lent ≡ []
  pub owned : f.owned ≡ []
  pub result : HasWords core.types f.result 0

-- the function is lent its product alone, for change and set, gives nothing, and is no ramp
pub record IsDeinit (core : Core) (d : Deinit) : Type 0 where
  pub fun : Fun
  pub there : slice_get core.funs d.fun ≡ Some fun
  pub ramp : is_ramp fun ≡ false
  pub type : TyId
  pub parts : List TyId
  pub product : form core.types type ≡ Products d.product parts
  pub lent : fun.lent ≡ record { type = type; convention = ByInout } ∷ []
  pub owned : fun.owned ≡ []
  pub result : HasWords core.types fun.result 0

pub record Shaped (core : Core) : Type 0 where
  pub main : (f : Fun) × (slice_get core.funs 0 ≡ Some f) × IsMain core f
  pub funs : (n : ℕ) (f : Fun) → slice_get core.funs n ≡ Some f → IsShapedFun core f
  pub deinits : all (IsDeinit core) core.deinits
