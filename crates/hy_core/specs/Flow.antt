-- The flow of a core: at each statement, what is set and what is open there in every run. A core that has a flow is calm.
use Rattle.std.specs.Prelude.{◌≡◌, ◌≢◌, ◌⊎◌, ◌≤◌, ◌==◌, ℕ, zero, suc, ℤ, pos, negsuc, cond, Bool, true}
use Rattle.std.specs.Prelude.{false, List, [], ◌∷◌, ◌++◌, length, Option, Some, None, slice_get}
use Rattle.hy_types.specs.declared.kinds.TyId.{TyId}
use Rattle.hy_types.specs.Types.{Table}
use Rattle.hy_core.specs.Plain.{Step, Part, Index, Place, Operator, Add, Sub, Mul, Div, Rem, Neg, Convert, Eq, Lt, Le, Not, NewArray, Push, Pop, Swap}
use Rattle.hy_core.specs.Plain.{Count, FreeArray, Print, Read, Check, Stmts, Done, Then, Stmt, Built, Set, Lend, Close, Move, Copy, Drop, Call, Project}
use Rattle.hy_core.specs.Plain.{Slide, Yield, If, While, Break, Continue, Leave, Convention, ByLet, ByInout, BySet, Parameter, Fun, lent_types, is_ramp}
use Rattle.hy_core.specs.Plain.{Core}
use Rattle.hy_core.specs.Values.{selector_eq, Path, Apart}
use Rattle.hy_core.specs.Memory.{Way, Reads, Writes}
use Rattle.hy_core.specs.Control.{Form, Numbers, Flags, Tuples, Products, Arrays, Unknown, form, parts_of, local_type, Stage, Deinitialises, GivesUp}
use Rattle.hy_core.specs.Statements.{way}
use Rattle.hy_core.specs.Shaped.{filled_by}
use Rattle.hy_core.specs.Typing.{Among, all, place_type, IsLeaf, IsArrayAt, IsNestedAt, still, still_type}

-- WHAT IS SET

-- Of a part without parts of its own: a number, a truth value, an array, or what has no parts. A whole is set as its parts are.
-- What is set on one way to a statement and unset on another is doubtful: in a core just that, and in a checked core set exactly
-- where a local of the body is true.
pub data InitState : Type 0 where
  IsSet : InitState
  IsUnset : InitState
  -- set, to this truth value; or to 0, or to a number above 0
  IsKnown : Bool → InitState
  -- an array that is set and has no element, or has none where a local is false or 0 and is else true or above 0
  IsEmpty : InitState
  IsEmptyWithout : (local : ℕ) → InitState
  IsDoubtful : InitState
  IsSetWith : (flag : ℕ) → InitState

abbrev pub IsSetSo : InitState → Type 0
IsSetSo IsSet = Unit {0}
IsSetSo IsUnset = ⊥
IsSetSo (IsKnown b) = Unit {0}
IsSetSo IsEmpty = Unit {0}
IsSetSo (IsEmptyWithout l) = Unit {0}
IsSetSo IsDoubtful = ⊥
IsSetSo (IsSetWith f) = ⊥

-- What counts as the state that is wanted. What is doubtful counts as unset where a set part is wanted, and as set where an unset one is.
abbrev pub Counts : (wanted : InitState) → InitState → Type 0
Counts IsSet s = IsSetSo s
Counts IsUnset s = s ≡ IsUnset
Counts (IsKnown b) s = s ≡ IsKnown b
Counts IsEmpty s = s ≡ IsEmpty
Counts (IsEmptyWithout l) s = ⊥
Counts IsDoubtful s = ⊥
Counts (IsSetWith f) s = ⊥

-- the state does not rest on the local
abbrev pub IsNotTied : ℕ → InitState → Type 0
IsNotTied l IsSet = Unit {0}
IsNotTied l IsUnset = Unit {0}
IsNotTied l (IsKnown b) = Unit {0}
IsNotTied l IsEmpty = Unit {0}
IsNotTied l (IsEmptyWithout k) = k ≢ l
IsNotTied l IsDoubtful = Unit {0}
IsNotTied l (IsSetWith k) = k ≢ l

-- the state of each part of a place, by path
abbrev pub InitMap : Type 0
InitMap = Path → InitState

abbrev pub all_set : InitMap
all_set q = IsSet

abbrev pub none_set : InitMap
none_set q = IsUnset

-- the states of the parts below a path, and a map with others there
abbrev pub map_at : Path → InitMap → InitMap
map_at [] c = c
map_at (s ∷ p) c = map_at p (λ q. c (s ∷ q))

abbrev pub with_map : Path → InitMap → InitMap → InitMap
with_map [] d c q = d q
with_map (s ∷ p) d c [] = c []
with_map (s ∷ p) d c (t ∷ q) = cond (selector_eq t s) (with_map p d (λ r. c (s ∷ r)) q) (c (t ∷ q))

-- FLOW STATES: what is known at a statement

-- which local of the body stands for an open place: one that a `Lend` opened, or a parameter of the subscript that yielded one
pub data Holder : Type 0 where
  InLocal : ℕ → Holder
  InSubscript : ℕ → Holder

-- an open place of a local: its steps up to the first index, and its way
pub record OpenPlace : Type 0 where
  pub holder : Holder
  pub base : ℕ
  pub path : Path
  pub way : Way

-- where a `Lend` opened a local; `exact` where no index step follows the path
pub record Loan : Type 0 where
  pub base : ℕ
  pub path : Path
  pub exact : Bool
  pub way : Way

-- how a local came to be what it is: it is the body's own, was lent by a caller, opened by a `Lend`, or by a `Project`
pub data Status : Type 0 where
  Own : Status
  Param : Way → Status
  Opened : Loan → Status
  Bound : Way → Status

-- `yielded` says whether the `Yield` of a ramp has come
pub record FlowState : Type 0 where
  pub status : ℕ → Status
  pub init : ℕ → InitMap
  pub open_places : List OpenPlace
  pub yielded : Bool

-- of a lent parameter: the way in which it is open, and what is set in it when the body begins and when it ends
pub record Terms : Type 0 where
  pub way : Way
  pub before : InitMap
  pub after : InitMap

abbrev pub terms_of : Convention → Terms
terms_of ByLet = record { way = Reads; before = all_set; after = all_set }
terms_of ByInout = record { way = Writes; before = all_set; after = all_set }
terms_of BySet = record { way = Writes; before = none_set; after = all_set }

abbrev pub terms_at : Option Parameter → Terms
terms_at None = terms_of ByLet
terms_at (Some a) = terms_of a.convention

-- of a function: the terms of each lent parameter, and the way of what a ramp yields, which is set both when it is handed out
-- and when it comes back
pub record Signature : Type 0 where
  pub lent : ℕ → Terms
  pub yields : Way

abbrev pub way_or_reads : Option Way → Way
way_or_reads None = Reads
way_or_reads (Some w) = w

abbrev pub signature_of : Option Fun → Signature
signature_of None = record { lent = λ l. terms_at None; yields = Reads }
signature_of (Some f) = record { lent = λ l. terms_at (slice_get f.lent l); yields = way_or_reads f.yields }

-- where a statement stands: the stage and the core, the signatures of its functions, and the function and its own
pub record Context : Type 0 where
  pub stage : Stage
  pub core : Core
  pub signatures : ℕ → Signature
  pub fun : Fun
  pub signature : Signature

abbrev pub set_local : {A : Type 0} → (ℕ → A) → ℕ → A → ℕ → A
set_local f l a j = cond (j == l) a (f j)

abbrev pub with_init : FlowState → ℕ → Path → InitMap → FlowState
with_init g l p c = record g { init = set_local g.init l (with_map p c (g.init l)) }

abbrev pub with_status : FlowState → ℕ → Status → InitMap → FlowState
with_status g l s c = record g { status = set_local g.status l s; init = set_local g.init l c }

abbrev pub with_open_place : FlowState → OpenPlace → FlowState
with_open_place g e = record g { open_places = e ∷ g.open_places }

abbrev pub way_of : Status → Way
way_of Own = Writes
way_of (Param w) = w
way_of (Opened o) = o.way
way_of (Bound w) = w

-- the local stands for a place elsewhere, in that way
abbrev pub IsOpen : Status → Way → Type 0
IsOpen Own w = ⊥
IsOpen (Param u) w = u ≡ w
IsOpen (Opened o) w = o.way ≡ w
IsOpen (Bound u) w = u ≡ w

abbrev pub IsInLocal : Holder → Type 0
IsInLocal (InLocal l) = Unit {0}
IsInLocal (InSubscript l) = ⊥

-- no step is an index
abbrev pub is_exact : List Step → Bool
is_exact [] = true
is_exact (Part i ∷ steps) = is_exact steps
is_exact (Index l s ∷ steps) = false

-- WHAT MAY BE USED: no place that overlaps is open, and no subscript that has not ended was lent the local

abbrev pub EachOpenPlace : FlowState → ℕ → (OpenPlace → Type 0) → Type 0
EachOpenPlace g l P = (e : OpenPlace) → Among e g.open_places → e.base ≡ l → P e

abbrev pub IsShutAt : FlowState → ℕ → Type 0
IsShutAt g l = EachOpenPlace g l (λ e. ⊥)

abbrev pub MayReadAt : FlowState → ℕ → Path → Type 0
MayReadAt g l p = EachOpenPlace g l (λ e. IsInLocal e.holder × (e.way ≡ Writes → Apart e.path p))

pub record MayWriteAt (g : FlowState) (l : ℕ) (p : Path) : Type 0 where
  pub writable : way_of (g.status l) ≡ Writes
  pub free : EachOpenPlace g l (λ e. IsInLocal e.holder × Apart e.path p)

abbrev pub MayOpenAt : FlowState → ℕ → Path → Way → Type 0
MayOpenAt g l p Reads = MayReadAt g l p
MayOpenAt g l p Writes = MayWriteAt g l p

-- each index may be read, and is set
abbrev pub IndexesOk : FlowState → List Step → Type 0
IndexesOk g [] = Unit {0}
IndexesOk g (Part i ∷ steps) = IndexesOk g steps
IndexesOk g (Index l s ∷ steps) = MayReadAt g l [] × IsSetSo (g.init l []) × IndexesOk g steps

-- the state of what a `Set` stores
abbrev pub constant_state : Form → ℤ → InitState
constant_state (Numbers t) (pos zero) = IsKnown false
constant_state (Numbers t) (pos (suc n)) = IsKnown true
constant_state (Numbers t) (negsuc n) = IsSet
constant_state Flags (pos zero) = IsKnown false
constant_state Flags (pos (suc n)) = IsKnown true
constant_state Flags (negsuc n) = IsSet
constant_state (Tuples parts) n = IsSet
constant_state (Products d parts) n = IsSet
constant_state (Arrays t) n = IsSet
constant_state Unknown n = IsSet

-- What rests on a local is resolved where that is known.
abbrev pub resolved : ℕ → Bool → InitState → InitState
resolved f b IsSet = IsSet
resolved f b IsUnset = IsUnset
resolved f b (IsKnown c) = IsKnown c
resolved f b IsEmpty = IsEmpty
resolved f b (IsEmptyWithout k) = cond (k == f) (cond b IsSet IsEmpty) (IsEmptyWithout k)
resolved f b IsDoubtful = IsDoubtful
resolved f b (IsSetWith k) = cond (k == f) (cond b IsSet IsUnset) (IsSetWith k)

-- what rests on one local rests on another that says the same
abbrev pub retied : (old new : ℕ) → InitState → InitState
retied n c IsSet = IsSet
retied n c IsUnset = IsUnset
retied n c (IsKnown b) = IsKnown b
retied n c IsEmpty = IsEmpty
retied n c (IsEmptyWithout k) = IsEmptyWithout (cond (k == n) c k)
retied n c IsDoubtful = IsDoubtful
retied n c (IsSetWith k) = IsSetWith k

-- each part of the type stands so
abbrev pub Each : Table → TyId → InitMap → InitState → Type 0
Each types t c s = (q : Path) → IsLeaf types t q → Counts s (c q)

module _ (x : Context) where
  -- a local that a `Lend` or `Project` fills is used only while it is open
  abbrev pub IsLive : FlowState → ℕ → Type 0
  IsLive g l = g.status l ≡ Own → Among l (filled_by x.fun.body) → ⊥

  -- the state of no part rests on the local
  abbrev pub IsUntied : FlowState → ℕ → Type 0
  IsUntied g f = (l : ℕ) (t : TyId) (q : Path) → local_type x.fun l ≡ Some t → IsLeaf x.core.types t q → IsNotTied f (g.init l q)

  -- the map of what stands before the first index
  abbrev pub still_map : FlowState → Place → InitMap
  still_map g p = map_at (still p.steps) (g.init p.local)

  -- the place is set; of one with an index its array, whose elements all are
  abbrev pub IsSetAt : FlowState → Place → Type 0
  IsSetAt g p = (t : TyId) → still_type x.core.types x.fun p ≡ Some t → Each x.core.types t (still_map g p) IsSet

  abbrev pub IsLocalSet : FlowState → ℕ → Type 0
  IsLocalSet g l = (t : TyId) → local_type x.fun l ≡ Some t → Each x.core.types t (g.init l) IsSet

  abbrev pub IsLocalUnset : FlowState → ℕ → Type 0
  IsLocalUnset g l = (t : TyId) → local_type x.fun l ≡ Some t → Each x.core.types t (g.init l) IsUnset

  -- the place can be come to: the array of an index step is set
  abbrev pub IsEntered : FlowState → Place → Bool → Type 0
  IsEntered g p true = Unit {0}
  IsEntered g p false = IsSetAt g p

  -- no array is set in a place that is stored over
  abbrev pub NoArray : FlowState → Place → Bool → Type 0
  NoArray g p true = (t : TyId) → place_type x.core.types x.fun p ≡ Some t → (q : Path) → IsArrayAt x.core.types t q → still_map g p q ≡ IsUnset
  NoArray g p false = (t : TyId) → place_type x.core.types x.fun p ≡ Some t → (q : Path) → IsArrayAt x.core.types t q → ⊥

  pub record ReadOk (g : FlowState) (p : Place) : Type 0 where
    pub live : IsLive g p.local
    pub indexes : IndexesOk g p.steps
    pub free : MayReadAt g p.local (still p.steps)
    pub set : IsSetAt g p

  -- an array that is changed where it stands
  pub record ChangeOk (g : FlowState) (p : Place) : Type 0 where
    pub live : IsLive g p.local
    pub indexes : IndexesOk g p.steps
    pub free : MayWriteAt g p.local (still p.steps)
    pub set : IsSetAt g p
    pub untied : IsUntied g p.local

  pub record StoreOk (g : FlowState) (p : Place) : Type 0 where
    pub live : IsLive g p.local
    pub indexes : IndexesOk g p.steps
    pub free : MayWriteAt g p.local (still p.steps)
    pub entered : IsEntered g p (is_exact p.steps)
    pub over : NoArray g p (is_exact p.steps)
    pub untied : IsUntied g p.local

  -- what a `Drop` gives up: no element, nor part of one
  pub record GiveOk (g : FlowState) (p : Place) : Type 0 where
    pub live : IsLive g p.local
    pub exact : is_exact p.steps ≡ true
    pub free : MayWriteAt g p.local (still p.steps)
    pub untied : IsUntied g p.local

  -- what is moved is set too
  pub record TakeOk (g : FlowState) (p : Place) : Type 0 where
    pub give : GiveOk g p
    pub set : IsSetAt g p

  abbrev pub given : FlowState → Place → FlowState
  given g p = with_init g p.local (still p.steps) none_set

  abbrev pub stored_as : InitMap → FlowState → Place → Bool → FlowState
  stored_as c g p true = with_init g p.local (still p.steps) c
  stored_as c g p false = g

  abbrev pub stored_if : FlowState → Place → Bool → FlowState
  stored_if = stored_as all_set

  abbrev pub stored : FlowState → Place → FlowState
  stored g p = stored_if g p (is_exact p.steps)

  abbrev pub form_or_unknown : Option TyId → Form
  form_or_unknown None = Unknown
  form_or_unknown (Some t) = form x.core.types t

  abbrev pub set_to : FlowState → Place → ℤ → FlowState
  set_to g p n = stored_as (λ q. constant_state (form_or_unknown (place_type x.core.types x.fun p)) n) g p (is_exact p.steps)

  abbrev pub where_is : FlowState → ℕ → Bool → FlowState
  where_is g f b = record g { init = set_local (λ l q. resolved f b (g.init l q)) f (λ q. IsKnown b) }

  abbrev pub IsFlag : ℕ → Type 0
  IsFlag f = (t : TyId) × (local_type x.fun f ≡ Some t) × (form x.core.types t ≡ Flags)

  -- the local is a number or a truth value, and so much is known of it
  abbrev pub Knows : FlowState → ℕ → Bool → Type 0
  Knows g l b = (t : TyId) × (local_type x.fun l ≡ Some t) × (parts_of (form x.core.types t) ≡ []) × (g.init l [] ≡ IsKnown b)

  -- A part in the first state may be said to be in the second. What is set becomes doubtful in a checked core only where its local is
  -- known to be true, and what is unset only where that is known to be false.
  abbrev pub Becomes : FlowState → InitState → InitState → Type 0
  Becomes g s IsSet = IsSetSo s
  Becomes g s IsUnset = s ≡ IsUnset
  Becomes g s (IsKnown b) = s ≡ IsKnown b
  Becomes g s IsEmpty = s ≡ IsEmpty
  Becomes g s (IsEmptyWithout l) = (s ≡ IsEmptyWithout l) ⊎ ((Knows g l true × IsSetSo s) ⊎ (Knows g l false × (s ≡ IsEmpty)))
  Becomes g s IsDoubtful = (s ≡ IsDoubtful) ⊎ (x.stage ≡ Deinitialises)
  Becomes g s (IsSetWith f) = (s ≡ IsSetWith f) ⊎ (IsFlag f × ((Knows g f true × IsSetSo s) ⊎ (Knows g f false × (s ≡ IsUnset))))

  -- The one flow state leads to the other: what they tell of each local agrees, and what is open in the first is open in the second.
  pub record FlowsInto (g d : FlowState) : Type 0 where
    pub status : (l : ℕ) → g.status l ≡ d.status l
    pub init : (l : ℕ) (t : TyId) (q : Path) → local_type x.fun l ≡ Some t → IsLeaf x.core.types t q → Becomes g (g.init l q) (d.init l q)
    pub open_places : (e : OpenPlace) → Among e g.open_places → Among e d.open_places
    pub yielded : g.yielded ≡ d.yielded

  -- STORES

  abbrev pub Stores : FlowState → Option Place → FlowState → Type 0
  Stores g None d = ⊥
  Stores g (Some to) d = StoreOk g to × FlowsInto (stored g to) d

  abbrev pub StoresAs : InitMap → FlowState → Option Place → FlowState → Type 0
  StoresAs c g None d = ⊥
  StoresAs c g (Some to) d = StoreOk g to × FlowsInto (stored_as c g to (is_exact to.steps)) d

  -- an array that was changed is known to be set
  abbrev pub changed : FlowState → Place → FlowState
  changed g p = stored g p

  -- all are read, and the result is stored, if there is one
  abbrev pub Computes : FlowState → Option Place → List Place → FlowState → Type 0
  Computes g None from d = all (ReadOk g) from × FlowsInto g d
  Computes g (Some to) from d = all (ReadOk g) from × Stores g (Some to) d

  -- WHAT OPERATIONS TELL of arrays: whether one has no element

  abbrev pub is_whole_local : List Step → Bool
  is_whole_local [] = true
  is_whole_local (s ∷ steps) = false

  -- a count that is stored in a local is 0 where the array has no element, and else above 0
  abbrev pub counted : FlowState → Place → Place → FlowState
  counted g to array = with_init (with_init g to.local [] all_set) array.local (still array.steps) (λ q. IsEmptyWithout to.local)

  pub record CountOk (g : FlowState) (to array : Place) : Type 0 where
    pub read : ReadOk g array
    pub exact : is_exact array.steps ≡ true
    pub store : StoreOk g to
    pub whole : is_whole_local to.steps ≡ true
    pub other : to.local ≢ array.local
    pub untied : IsUntied g array.local

  -- that 0 is below a number says whether this is 0, where it is 0 or above it
  abbrev pub compared : FlowState → Place → Place → FlowState
  compared g to n = with_init (record g { init = λ l q. retied n.local to.local (g.init l q) }) to.local [] all_set

  pub record CompareOk (g : FlowState) (to zero' n : Place) : Type 0 where
    pub read_zero : ReadOk g zero'
    pub whole_zero : is_whole_local zero'.steps ≡ true
    pub known : g.init zero'.local [] ≡ IsKnown false
    pub read : ReadOk g n
    pub whole_read : is_whole_local n.steps ≡ true
    pub store : StoreOk g to
    pub whole : is_whole_local to.steps ≡ true
    pub other : to.local ≢ n.local
    pub other_zero : to.local ≢ zero'.local

  abbrev pub Onto : Option Place → (Place → Type 0) → Type 0
  Onto None P = ⊥
  Onto (Some to) P = P to

  -- each array in the place whose elements hold arrays has no element
  abbrev pub HasNoElements : FlowState → Place → Type 0
  HasNoElements g p =
      (t : TyId) → place_type x.core.types x.fun p ≡ Some t → (q : Path) → IsNestedAt x.core.types t q → still_map g p q ≡ IsEmpty

  -- OPENING AND CLOSING

  abbrev pub opened_map : FlowState → Place → Bool → InitMap
  opened_map g p true = still_map g p
  opened_map g p false = all_set

  abbrev pub opened : FlowState → ℕ → Place → Way → FlowState
  opened g to p w =
      let e : OpenPlace = record { holder = InLocal to; base = p.local; path = still p.steps; way = w } in
      let o : Loan = record { base = p.local; path = still p.steps; exact = is_exact p.steps; way = w } in
      with_open_place (with_status g to (Opened o) (opened_map g p (is_exact p.steps))) e

  -- what is lent for reading is set; what is lent for change can be come to
  abbrev pub IsLendable : FlowState → Place → Way → Type 0
  IsLendable g p Reads = IsSetAt g p
  IsLendable g p Writes = IsEntered g p (is_exact p.steps)

  -- a local that is to stand for a place elsewhere is the body's own, unset, and no place of it is open
  pub record IsFree (g : FlowState) (to : ℕ) : Type 0 where
    pub own : g.status to ≡ Own
    pub unset : IsLocalUnset g to
    pub shut : IsShutAt g to
    pub untied : IsUntied g to

  pub record LendOk (g : FlowState) (to : ℕ) (p : Place) (w : Way) : Type 0 where
    pub free : IsFree g to
    pub other : to ≢ p.local
    pub live : IsLive g p.local
    pub indexes : IndexesOk g p.steps
    pub may : MayOpenAt g p.local (still p.steps) w
    pub lendable : IsLendable g p w

  -- what closes comes back into its place: in an array it is set, and elsewhere what is set in it is set there
  abbrev pub come_back : FlowState → ℕ → Loan → Way → Bool → FlowState
  come_back g l o Reads exact = g
  come_back g l o Writes true = with_init g o.base o.path (g.init l)
  come_back g l o Writes false = g

  abbrev pub ComesBack : FlowState → ℕ → Way → Bool → Type 0
  ComesBack g l Reads exact = Unit {0}
  ComesBack g l Writes true = Unit {0}
  ComesBack g l Writes false = IsLocalSet g l

  -- the local is the body's own again, and what stood for it is no more open
  pub record Without (holder : Holder) (g d : FlowState) : Type 0 where
    pub status : d.status ≡ g.status
    pub init : d.init ≡ g.init
    pub open_places : (e : OpenPlace) → Among e g.open_places → e.holder ≢ holder → Among e d.open_places
    pub yielded : d.yielded ≡ g.yielded

  abbrev pub Closes : FlowState → ℕ → Loan → FlowState → Type 0
  Closes g l o d = IsShutAt g l × ComesBack g l o.way o.exact
      × ((h : FlowState) × Without (InLocal l) (with_status (come_back g l o o.way o.exact) l Own none_set) h × FlowsInto h d)
      × IsUntied g l × IsUntied g o.base

  abbrev pub Slides : FlowState → ℕ → FlowState → Type 0
  Slides g l d = IsShutAt g l × IsLocalSet g l × ((h : FlowState) × Without (InSubscript l) (with_status g l Own none_set) h × FlowsInto h d)
      × IsUntied g l

  -- CALLS

  -- a local that is handed over is open in the way that is wanted, no place of it is open, and it is set as far as is wanted
  pub record HandOk (g : FlowState) (terms : Terms) (l : ℕ) : Type 0 where
    pub status : IsOpen (g.status l) terms.way
    pub shut : IsShutAt g l
    pub init : (t : TyId) → local_type x.fun l ≡ Some t → (q : Path) → IsLeaf x.core.types t q → Counts (terms.before q) (g.init l q)
    pub untied : IsUntied g l

  abbrev pub HandsOk : FlowState → Signature → ℕ → List ℕ → Type 0
  HandsOk g s i [] = Unit {0}
  HandsOk g s i (l ∷ ls) = HandOk g (s.lent i) l × HandsOk g s (suc i) ls

  -- what the body leaves of them
  abbrev pub come_from : FlowState → Signature → ℕ → List ℕ → FlowState
  come_from g s i [] = g
  come_from g s i (l ∷ ls) = come_from (with_init g l [] (s.lent i).after) s (suc i) ls

  -- with the locals that are lent to the subscript that yields a local
  abbrev pub held_by : ℕ → FlowState → Signature → ℕ → List ℕ → FlowState
  held_by to g s i [] = g
  held_by to g s i (l ∷ ls) = held_by to (with_open_place g (record { holder = InSubscript to; base = l; path = []; way = (s.lent i).way })) s (suc i) ls

  -- the owned arguments are moved, one after another
  abbrev pub TakesOk : FlowState → List Place → Type 0
  TakesOk g [] = Unit {0}
  TakesOk g (p ∷ ps) = TakeOk g p × TakesOk (given g p) ps

  abbrev pub all_given : FlowState → List Place → FlowState
  all_given g [] = g
  all_given g (p ∷ ps) = all_given (given g p) ps

  abbrev pub Calls : FlowState → ℕ → List ℕ → List Place → Place → FlowState → Type 0
  Calls g n lent owned to d =
      let h = all_given g owned in
      let s = x.signatures n in
      TakesOk g owned × HandsOk h s 0 lent × Stores (come_from h s 0 lent) (Some to) d

  abbrev pub Projects : FlowState → ℕ → List ℕ → List Place → ℕ → FlowState → Type 0
  Projects g n lent owned to d =
      let h = all_given g owned in
      let s = x.signatures n in
      TakesOk g owned × HandsOk h s 0 lent × IsFree h to
      × FlowsInto (with_status (held_by to (come_from h s 0 lent) s 0 lent) to (Bound s.yields) all_set) d

  -- STAGES

  -- a `Drop` of a checked core gives up what is set, and no array with elements that hold arrays
  abbrev pub IsDropped : Stage → FlowState → Place → Type 0
  IsDropped Deinitialises g p = Unit {0}
  IsDropped GivesUp g p = IsSetAt g p × HasNoElements g p

  -- a checked core copies no array, and only it frees one
  abbrev pub IsCopied : Stage → Place → Type 0
  IsCopied Deinitialises p = Unit {0}
  IsCopied GivesUp p = (t : TyId) → place_type x.core.types x.fun p ≡ Some t → (q : Path) → IsArrayAt x.core.types t q → ⊥

  abbrev pub Frees : Stage → Type 0
  Frees Deinitialises = ⊥
  Frees GivesUp = Unit {0}

  -- what is unset in an owned local at the end of a body: its arrays, and in a checked core all of it
  abbrev pub IsLeft : Stage → FlowState → ℕ → Type 0
  IsLeft Deinitialises g l = (t : TyId) → local_type x.fun l ≡ Some t → (q : Path) → IsArrayAt x.core.types t q → g.init l q ≡ IsUnset
  IsLeft GivesUp g l = IsLocalUnset g l

  -- the end of a body, once the `Leave` has taken what it hands out
  pub record IsLast (g : FlowState) : Type 0 where
    pub yielded : g.yielded ≡ is_ramp x.fun
    pub open_places : (e : OpenPlace) → Among e g.open_places → ⊥
    pub closed : (l : ℕ) → length (lent_types x.fun) ≤ l → g.status l ≡ Own
    pub lent : (l : ℕ) (t : TyId) → slice_get (lent_types x.fun) l ≡ Some t → (q : Path) → IsLeaf x.core.types t q
        → Counts ((x.signature.lent l).after q) (g.init l q)
    pub left : (l : ℕ) → length (lent_types x.fun) ≤ l → IsLeft x.stage g l

  -- STATEMENTS

  abbrev pub One : {A : Type 0} → List A → (A → Type 0) → Type 0
  One [] P = ⊥
  One (a ∷ as') P = P a

  abbrev pub Two : {A : Type 0} → List A → (A → A → Type 0) → Type 0
  Two [] P = ⊥
  Two (a ∷ as') P = One as' (P a)

  abbrev pub Three : {A : Type 0} → List A → (A → A → A → Type 0) → Type 0
  Three [] P = ⊥
  Three (a ∷ as') P = Two as' (P a)

  abbrev pub TransfersBuilt : Operator → Option Place → List Place → FlowState → FlowState → Type 0
  TransfersBuilt Push to from g d = Two from (λ array a. TakeOk g a × ChangeOk (given g a) array × FlowsInto (changed (given g a) array) d)
  TransfersBuilt Pop to from g d = One from (λ array. ChangeOk g array × Stores (changed g array) to d)
  TransfersBuilt Swap to from g d = Three from (λ array a b. ReadOk g a × ReadOk g b × ChangeOk g array × FlowsInto (changed g array) d)
  TransfersBuilt FreeArray to from g d = Frees x.stage × One from (λ array. TakeOk g array × FlowsInto (given g array) d × HasNoElements g array)
  TransfersBuilt Add to from g d = Computes g to from d
  TransfersBuilt Sub to from g d = Computes g to from d
  TransfersBuilt Mul to from g d = Computes g to from d
  TransfersBuilt Div to from g d = Computes g to from d
  TransfersBuilt Rem to from g d = Computes g to from d
  TransfersBuilt Neg to from g d = Computes g to from d
  TransfersBuilt (Convert t) to from g d = Computes g to from d
  TransfersBuilt Eq to from g d = Computes g to from d
  TransfersBuilt Lt to from g d = Computes g to from d ⊎ Onto to (λ to. Two from (λ a b. CompareOk g to a b × FlowsInto (compared g to b) d))
  TransfersBuilt Le to from g d = Computes g to from d
  TransfersBuilt Not to from g d = Computes g to from d
  TransfersBuilt NewArray to from g d = StoresAs (λ q. IsEmpty) g to d
  TransfersBuilt Count to from g d = Computes g to from d ⊎ Onto to (λ to. One from (λ a. CountOk g to a × FlowsInto (counted g to a) d))
  TransfersBuilt Print to from g d = Computes g to from d
  TransfersBuilt Read to from g d = Computes g to from d
  TransfersBuilt Check to from g d = Computes g to from d

  -- the flow state after the innermost loop, and where its next pass begins
  pub data Around : Type 0 where
    NoLoop : Around
    InLoop : (after again : FlowState) → Around

  abbrev pub Breaks : Around → FlowState → Type 0
  Breaks NoLoop g = ⊥
  Breaks (InLoop after again) g = FlowsInto g after

  abbrev pub Continues : Around → FlowState → Type 0
  Continues NoLoop g = ⊥
  Continues (InLoop after again) g = FlowsInto g again

  -- Where g holds before the statements, d holds after them; before each statement less may be told. Nothing follows a `Break`,
  -- `Continue` or `Leave`.
  abbrev mutual
    pub TransfersAll : Around → FlowState → Stmts → FlowState → Type 0
    TransfersAll a g Done d = FlowsInto g d
    TransfersAll a g (Then s ss) d = (k h : FlowState) × FlowsInto g k × Transfers a k s h × TransfersAll a h ss d

    pub Transfers : Around → FlowState → Stmt → FlowState → Type 0
    Transfers a g (Built operator to from spans) d = TransfersBuilt operator to from g d
    Transfers a g (Set to n) d = StoreOk g to × FlowsInto (set_to g to n) d
    Transfers a g (Lend to place w) d = LendOk g to place (way w) × FlowsInto (opened g to place (way w)) d
    Transfers a g (Close l) d = (o : Loan) × (g.status l ≡ Opened o) × Closes g l o d
    Transfers a g (Move to from) d = TakeOk g from × Stores (given g from) (Some to) d
    Transfers a g (Copy to from) d = ReadOk g from × IsCopied x.stage from × Stores g (Some to) d
    Transfers a g (Drop place) d = GiveOk g place × IsDropped x.stage g place × FlowsInto (given g place) d
    Transfers a g (Call n lent owned to) d = Calls g n lent owned to d
    Transfers a g (Project n lent owned to) d = Projects g n lent owned to d
    Transfers a g (Slide l) d = (w : Way) × (g.status l ≡ Bound w) × Slides g l d
    Transfers a g (Yield l) d =
        (is_ramp x.fun ≡ true) × (g.yielded ≡ false) × IsOpen (g.status l) x.signature.yields × IsShutAt g l × IsLocalSet g l
        × FlowsInto (record (with_init g l [] all_set) { yielded = true }) d × IsUntied g l
    Transfers a g (If on p q) d =
        MayReadAt g on [] × IsSetSo (g.init on []) × TransfersAll a (where_is g on true) p d × TransfersAll a (where_is g on false) q d × IsLive g on
    Transfers a g (While head on body) d =
        (h e : FlowState) × FlowsInto g h × TransfersAll NoLoop h head e × MayReadAt e on [] × IsSetSo (e.init on [])
        × TransfersAll (InLoop d h) (where_is e on true) body h × FlowsInto (where_is e on false) d × IsLive e on
    Transfers a g Break d = Breaks a g
    Transfers a g Continue d = Continues a g
    Transfers a g (Leave from) d = TakeOk g from × IsLast (given g from)

  -- BODIES

  abbrev pub first_status : Option TyId → ℕ → Status
  first_status None l = Own
  first_status (Some t) l = Param (x.signature.lent l).way

  abbrev pub first_map : (lent parameter : Option TyId) → ℕ → InitMap
  first_map (Some t) p l = (x.signature.lent l).before
  first_map None (Some t) l = all_set
  first_map None None l = none_set

  -- the flow state where a body begins: the owned parameters are set
  abbrev pub first : FlowState
  first = record {
    status = λ l. first_status (slice_get (lent_types x.fun) l) l;
    init = λ l. first_map (slice_get (lent_types x.fun) l) (slice_get (lent_types x.fun ++ x.fun.owned) l) l;
    open_places = [];
    yielded = false;
  }

  abbrev pub BodyFlows : Type 0
  BodyFlows = (d : FlowState) × TransfersAll NoLoop first x.fun.body d

abbrev pub context_of : Stage → Core → (ℕ → Signature) → ℕ → Fun → Context
context_of stage core signatures n f = record { stage = stage; core = core; signatures = signatures; fun = f; signature = signatures n }

-- of each function of a core, by its place
abbrev pub signatures_of : Core → ℕ → Signature
signatures_of core n = signature_of (slice_get core.funs n)

-- Each body has a flow state before each of its statements, whether a run reaches it or not.
pub record HasFlow (stage : Stage) (core : Core) : Type 0 where
  pub each : (n : ℕ) (f : Fun) → slice_get core.funs n ≡ Some f → BodyFlows (context_of stage core (signatures_of core) n f)
