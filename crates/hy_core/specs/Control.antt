-- The state of a run but for its memory, and what statements are made of: questions and orders to a memory.
use Rattle.std.specs.Prelude.{cond, ℕ, zero, suc, Bool, nat_lt, if◌then◌else◌, List, [], ◌∷◌, ◌++◌, Option, Some, None, slice_get, ℤ}
use Rattle.hy_base.specs.declared.numbers.IntegerType.{IntegerType}
use Rattle.hy_base.specs.declared.numbers.IntegerType.TheVariants.{Int, Sized}
use Rattle.hy_base.specs.declared.run.End.{End}
use Rattle.hy_base.specs.declared.run.End.TheVariants as end
use Rattle.hy_base.specs.declared.run.TrapKind.{TrapKind}
use Rattle.hy_base.specs.declared.run.TrapKind.TheVariants as trap
use Rattle.hy_types.specs.declared.kinds.TyId.{TyId}
use Rattle.hy_types.specs.declared.kinds.Ty.{Ty}
use Rattle.hy_types.specs.declared.kinds.Ty.TheVariants as ty
use Rattle.hy_types.specs.Types.{Table, row_at, declared}
use Rattle.hy_core.specs.Plain.{Step, Part, Index, Place, Stmts, Fun, lent_types, Core}
use Rattle.hy_core.specs.Values.{Val, Unset, Number, Truth, Tuple, Product, Array, Vals, PartAt, ElementAt, Path, Shape, Nothing, Scalar, Flag, Parts}
use Rattle.hy_core.specs.Values.{Fields, Elements, is_whole}
use Rattle.hy_core.specs.Memory.{Key, key_eq, Spot, whole}
use Rattle.hy_core.specs.Operators.{index_in, blanks}
use Rattle.hy_core.specs.Runs.{Fate, Moved, Store, Clear, Interaction, Fetch, Inspect, Perform, Return}

-- TYPES

-- what the values of a type are made of; parts and elements by their types
pub data Form : Type 0 where
  Numbers : IntegerType → Form
  Flags : Form
  Tuples : (parts : List TyId) → Form
  Products : (declaration : ℕ) → (parts : List TyId) → Form
  Arrays : (element : TyId) → Form
  Unknown : Form

abbrev pub product_form : ℕ → Option (List TyId) → Form
product_form d None = Unknown
product_form d (Some parts) = Products d parts

abbrev pub form_of : Table → Option Ty → Form
form_of types None = Unknown
form_of types (Some ty.Int) = Numbers Int
form_of types (Some (ty.Sized num)) = Numbers (Sized num)
form_of types (Some ty.Bool) = Flags
form_of types (Some (ty.Tuple parts)) = Tuples parts
form_of types (Some (ty.Product d)) = product_form d (declared types d)
form_of types (Some (ty.Array t)) = Arrays t
form_of types (Some (ty.Param k)) = Unknown

abbrev pub form : Table → TyId → Form
form types t = form_of types (row_at types t)

-- the types of the parts, and of the elements
abbrev pub parts_of : Form → List TyId
parts_of (Numbers t) = []
parts_of Flags = []
parts_of (Tuples parts) = parts
parts_of (Products d parts) = parts
parts_of (Arrays t) = []
parts_of Unknown = []

abbrev pub part_type : Form → ℕ → Option TyId
part_type f i = slice_get (parts_of f) i

abbrev pub element_type : Form → Option TyId
element_type (Numbers t) = None
element_type Flags = None
element_type (Tuples parts) = None
element_type (Products d parts) = None
element_type (Arrays t) = Some t
element_type Unknown = None

-- the value with parts, none of which is set
abbrev pub blank_of : Form → Option Val
blank_of (Numbers t) = None
blank_of Flags = None
blank_of (Tuples parts) = Some (Tuple (blanks parts))
blank_of (Products d parts) = Some (Product d (blanks parts))
blank_of (Arrays t) = None
blank_of Unknown = None

abbrev pub local_type : Fun → ℕ → Option TyId
local_type f l = slice_get (lent_types f ++ (f.owned ++ f.locals)) l

-- STATES

-- what is left of a deinitialisation: what takes a turn, and what does not
pub data Deed : Type 0 where
  Body : (product : ℕ) → Spot → Deed
  EachOf : (count : ℕ) → Spot → Deed
  Element : Spot → Deed

pub data Task : Type 0 where
  Do : Deed → Task
  Value : Spot → Task
  PartsOf : Spot → Task
  Unsets : Spot → Task

-- what is left of a body
pub data Work : Type 0 where
  Idle : Work
  Rest : Stmts → Work → Work
  Loop : (head : Stmts) → (on : ℕ) → (body : Stmts) → Work → Work
  Test : (head : Stmts) → (on : ℕ) → (body : Stmts) → Work → Work
  Drops : List Task → Work → Work

-- where what an activation gives goes: to a place of the caller, to a local that it opens there, or nowhere
pub data Dest : Type 0 where
  Result : Place → Dest
  Opens : ℕ → Dest
  Nowhere : Dest

pub record Activation : Type 0 where
  pub id : ℕ
  pub fun : Fun
  pub work : Work
  pub dest : Dest

-- an activation that sleeps, and the local that it yielded
pub record Nap : Type 0 where
  pub key : Key
  pub act : Activation

-- How a run stops. `Stuck` is what a core of the right shape never does. `NotSet` is where an unset place is read, moved or
-- given up, and `NotOpened` where a `Close` or `Slide` ends what no `Lend` or `Project` of its body opened.
pub data Halt : Type 0 where
  Ends : End → Halt
  Stuck : Halt
  NotSet : Halt
  NotOpened : Halt

-- The activation that runs, those that wait for it, those that sleep, by the local that each yielded, and how many have been
-- started; the turns that are left, the places opened, the input left and the output.
pub record Control : Type 0 where
  pub now : Activation
  pub callers : List Activation
  pub asleep : List Nap
  pub started : ℕ
  pub turns : ℕ
  pub opened : ℕ
  pub input : List ℕ
  pub output : List ℕ
  pub halt : Option Halt

-- What a `Drop` does: in a core it deinitialises what is set, and in a checked core it gives its place up.
pub data Stage : Type 0 where
  Deinitialises : Stage
  GivesUp : Stage

-- what a run does not change
pub record Setting : Type 0 where
  pub core : Core
  pub stage : Stage
  pub cut : Bool

abbrev pub stop : Control → Halt → Interaction Control
stop c h = Return (record c { halt = Some h })

-- the control in which the activation has this left to do
abbrev pub with_work : Control → Work → Control
with_work c w = record c { now = record (c.now) { work = w } }

abbrev pub key : Control → ℕ → Key
key c i = record { act = c.now.id; local = i }

abbrev pub count_one : Control → Control
count_one c = record c { opened = suc c.opened }

-- goes on with what is there
abbrev pub with_some : {A : Type 0} → Control → Option A → (A → Interaction Control) → Interaction Control
with_some c None go = stop c Stuck
with_some c (Some a) go = go a

-- ends with a trap at a span of the core
abbrev pub trapped : Setting → Control → TrapKind → ℕ → Interaction Control
trapped p c kind s = with_some c (slice_get p.core.spans s) (λ span. stop c (Ends (end.Trap kind span)))

-- takes a turn
abbrev pub turn : Control → ℕ → (Control → Interaction Control) → Interaction Control
turn c zero go = stop c (Ends end.Spent)
turn c (suc n) go = go (record c { turns = n })

-- an integer of type Int
abbrev pub with_number : Control → Val → (ℤ → Interaction Control) → Interaction Control
with_number c Unset go = stop c NotSet
with_number c (Number Int n) go = go n
with_number c (Number (Sized num) n) go = stop c Stuck
with_number c (Truth b) go = stop c Stuck
with_number c (Tuple vs) go = stop c Stuck
with_number c (Product d vs) go = stop c Stuck
with_number c (Array vs) go = stop c Stuck

abbrev pub with_flag : Control → Val → (Bool → Interaction Control) → Interaction Control
with_flag c Unset go = stop c NotSet
with_flag c (Number t n) go = stop c Stuck
with_flag c (Truth b) go = go b
with_flag c (Tuple vs) go = stop c Stuck
with_flag c (Product d vs) go = stop c Stuck
with_flag c (Array vs) go = stop c Stuck

abbrev pub with_array : Control → Val → (Vals → Interaction Control) → Interaction Control
with_array c Unset go = stop c NotSet
with_array c (Number t n) go = stop c Stuck
with_array c (Truth b) go = stop c Stuck
with_array c (Tuple vs) go = stop c Stuck
with_array c (Product d vs) go = stop c Stuck
with_array c (Array vs) go = go vs

abbrev pub with_set : Control → Val → Interaction Control → Interaction Control
with_set c v t = if is_whole v then t else stop c NotSet

-- PLACES

-- What a place is entered for. On the way to one that is stored to or lent for change, an unset product or tuple becomes one
-- whose parts are unset; a `Drop` does nothing inside an unset one.
pub data Aim : Type 0 where
  ToRead : Aim
  ToWrite : Aim
  ToDrop : Aim

abbrev pub at_unset : Aim → Control → Spot → Form → Interaction Control → Interaction Control
at_unset ToRead c s f t = stop c NotSet
at_unset ToWrite c s f t = with_some c (blank_of f) (λ v. Perform (Store s v) t)
at_unset ToDrop c s f t = Return c

-- goes on in a part, where the value has that part
abbrev pub at_part : Aim → Control → Spot → Form → ℕ → Shape → Interaction Control → Interaction Control
at_part aim c s f i Nothing t = at_unset aim c s f t
at_part aim c s f i (Scalar k n) t = stop c Stuck
at_part aim c s f i (Flag b) t = stop c Stuck
at_part aim c s f i (Parts n) t = if nat_lt i n then t else stop c Stuck
at_part aim c s f i (Fields d n) t = if nat_lt i n then t else stop c Stuck
at_part aim c s f i (Elements n) t = stop c Stuck

-- goes on with an index in range, or traps
abbrev pub with_index : Setting → Control → (span : ℕ) → Option ℕ → (ℕ → Interaction Control) → Interaction Control
with_index p c s None go = trapped p c trap.Index s
with_index p c s (Some i) go = go i

-- goes on in an element, where the array has that element
abbrev pub at_element : Setting → Aim → Control → (span : ℕ) → ℤ → Shape → (ℕ → Interaction Control) → Interaction Control
at_element p ToRead c s i Nothing go = stop c NotSet
at_element p ToWrite c s i Nothing go = stop c NotSet
at_element p ToDrop c s i Nothing go = Return c
at_element p aim c s i (Scalar k n) go = stop c Stuck
at_element p aim c s i (Flag b) go = stop c Stuck
at_element p aim c s i (Parts n) go = stop c Stuck
at_element p aim c s i (Fields d n) go = stop c Stuck
at_element p aim c s i (Elements n) go = with_index p c s (index_in n i) go

-- The place that the steps lead to, and its type. An index is read, checked and counted as opened.
abbrev pub walk : Setting → Aim → Control → Key → Path → (type : TyId) → List Step → (Control → Spot → TyId → Interaction Control) → Interaction Control
walk p aim c k q t [] go = go c (record { key = k; path = q }) t
walk p aim c k q t (Part i ∷ steps) go =
    let f = form p.core.types t in
    let s : Spot = record { key = k; path = q } in
    with_some c (part_type f i) (λ u. Inspect s (λ a. at_part aim c s f i a (walk p aim c k (q ++ PartAt i ∷ []) u steps go)))
walk p aim c k q t (Index l span ∷ steps) go =
    with_some c (element_type (form p.core.types t)) (λ u.
    Fetch (whole (key c l)) (λ v. with_number c v (λ i.
    Inspect (record { key = k; path = q }) (λ a. at_element p aim c span i a (λ j. walk p aim (count_one c) k (q ++ ElementAt j ∷ []) u steps go)))))

abbrev pub spot : Setting → Aim → Control → Place → (Control → Spot → TyId → Interaction Control) → Interaction Control
spot p aim c place go = with_some c (local_type c.now.fun place.local) (λ t. walk p aim c (key c place.local) [] t place.steps go)

-- the value of a place that is set
abbrev pub read : Setting → Control → Place → (Control → Val → Interaction Control) → Interaction Control
read p c place go = spot p ToRead c place (λ c s t. Fetch s (λ v. with_set c v (go c v)))

-- the same, and leaves the place unset
abbrev pub take_as : Fate → Setting → Control → Place → (Control → Val → Interaction Control) → Interaction Control
take_as fate p c place go = spot p ToRead c place (λ c s t. Fetch s (λ v. with_set c v (Perform (Clear s fate) (go c v))))

abbrev pub take : Setting → Control → Place → (Control → Val → Interaction Control) → Interaction Control
take = take_as Moved

abbrev pub write : Setting → Control → Place → Val → (Control → Interaction Control) → Interaction Control
write p c place v go = spot p ToWrite c place (λ c s t. Perform (Store s v) (go c))

abbrev pub read_number : Setting → Control → Place → (Control → ℤ → Interaction Control) → Interaction Control
read_number p c place go = read p c place (λ c v. with_number c v (go c))

abbrev pub read_flag : Setting → Control → Place → (Control → Bool → Interaction Control) → Interaction Control
read_flag p c place go = read p c place (λ c v. with_flag c v (go c))

-- the array of a place, and where it stands
abbrev pub read_array : Setting → Control → Place → (Control → Spot → Vals → Interaction Control) → Interaction Control
read_array p c place go = spot p ToRead c place (λ c s t. Fetch s (λ v. with_set c v (with_array c v (go c s))))

-- SLEEPERS

-- who yielded the local
abbrev pub sleeper_of : List Nap → Key → Option Activation
sleeper_of [] k = None
sleeper_of (x ∷ xs) k = cond (key_eq k x.key) (Some x.act) (sleeper_of xs k)

-- without the sleepers of the local
abbrev pub wake : List Nap → Key → List Nap
wake [] k = []
wake (x ∷ xs) k = cond (key_eq x.key k) (wake xs k) (x ∷ wake xs k)
