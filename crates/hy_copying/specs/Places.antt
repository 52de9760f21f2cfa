-- Places: where they begin, what is left to open once the values in them are known, and what is open.
use Rattle.std.specs.Prelude.{ℕ, ◌==◌, ℤ, Bool, true, false, List, [], ◌∷◌, ◌++◌, Option, Some, None, cond, slice_get, unwrap_or}
use Rattle.hy_base.specs.declared.position.Span.{Span}
use Rattle.hy_types.specs.Types as Y
use Rattle.hy_types.specs.Types.{PlainType, PlainTypes}
use Rattle.hy_signatures.specs.PlainTypes.{unit, part_at}
use Rattle.hy_signatures.specs.Declarations.{Source, Field, fields_of}
use Rattle.hy_check.specs.Uses.{Use, Sig}
use Rattle.hy_core.specs.Operators.{blanks}
use Rattle.hy_core.specs.Values.{Val, Unset, Tuple, Product, Vals, No, And, Selector, PartAt, ElementAt, Path, part, with_part}
use Rattle.hy_copying.specs.Runs.{State, Slid}

-- a variable, parameter, bound projection or new value, by the node that declares it; `self`; or a temporary, by the node of the
-- expression or step whose result it is
pub data Root : Type 0 where
  Local : (node : ℕ) → Root
  Itself : Root
  Temporary : (node : ℕ) → Root

-- whether two are the same
abbrev pub same_root : Root → Root → Bool
same_root (Local a) (Local b) = a == b
same_root Itself Itself = true
same_root (Temporary a) (Temporary b) = a == b
same_root a b = false

-- A place whose value parts are known, and that is still to be opened; and arguments: values that were moved, and places that are
-- lent or read. The receiver of a call is the first of its arguments.
mutual
  pub data Located : Type 0 where
    Rooted : Root → Located
    PartIn : Located → (number : ℕ) → Located
    ElementIn : Located → (index : ℤ) → (trap : Span) → Located
    YieldedIn : Sig → PlainType → Arguments → Located

  pub data Arguments : Type 0 where
    NoArgument : Arguments
    Moved : Val → Arguments → Arguments
    Lent : Use → Located → Arguments → Arguments

-- An open place: in an entry of the environment; or in what a suspended subscript yielded, with its slide, the places that it was
-- lent, the temporaries that die with it. What was moved to a subscript is not open.
mutual
  pub data Opened : Type 0 where
    InEntry : Root → Path → Opened
    InYielded : PlainType → (yielded : Val) → (slide : Val → State → Slid) → Openeds → (temporaries : List ℕ) → Path → Opened

  pub data Openeds : Type 0 where
    NoneOpen : Openeds
    NotOpen : Openeds → Openeds
    AlsoOpen : Use → Opened → Openeds → Openeds

-- WHAT A PLACE LENDS

abbrev pub local_in : Root → List ℕ
local_in (Local node) = node ∷ []
local_in Itself = []
local_in (Temporary node) = []

-- The variables and projections whose places it lends: its own root and, through its subscript steps, those of their place
-- arguments, at any depth.
abbrev mutual
  pub lends : Located → List ℕ
  lends (Rooted root) = local_in root
  lends (PartIn whole number) = lends whole
  lends (ElementIn whole index trap) = lends whole
  lends (YieldedIn sig type arguments) = all_lend arguments

  pub all_lend : Arguments → List ℕ
  all_lend NoArgument = []
  all_lend (Moved v more) = all_lend more
  all_lend (Lent used place more) = lends place ++ all_lend more

abbrev pub temporary_in : Root → List ℕ
temporary_in (Local node) = []
temporary_in Itself = []
temporary_in (Temporary node) = node ∷ []

-- the temporary that is the root of a place; a temporary that was lent to a subscript step dies with that
abbrev pub temporaries_of : Located → List ℕ
temporaries_of (Rooted root) = temporary_in root
temporaries_of (PartIn whole number) = temporaries_of whole
temporaries_of (ElementIn whole index trap) = temporaries_of whole
temporaries_of (YieldedIn sig type arguments) = []

-- those that are roots of places among the arguments, in order
abbrev pub temporaries_in : Arguments → List ℕ
temporaries_in NoArgument = []
temporaries_in (Moved v more) = temporaries_in more
temporaries_in (Lent used place more) = temporaries_of place ++ temporaries_in more

-- one argument more, which was moved
abbrev pub and_last : Arguments → Val → Arguments
and_last NoArgument v = Moved v NoArgument
and_last (Moved w more) v = Moved w (and_last more v)
and_last (Lent used place more) v = Lent used place (and_last more v)

-- a part or an element of an open place
abbrev pub inner : Selector → Opened → Opened
inner s (InEntry root path) = InEntry root (path ++ s ∷ [])
inner s (InYielded type yielded slide places temporaries path) = InYielded type yielded slide places temporaries (path ++ s ∷ [])

-- A VALUE PUT AT A PATH
-- Where a step stands on an unset place, that is first made the product or tuple of the type there, with unset parts.

abbrev pub field_type : Option Field → PlainType
field_type None = unit
field_type (Some field) = field.type

abbrev pub inner_type : Source → Selector → PlainType → PlainType
inner_type source (PartAt k) (Y.Tuple parts) = unwrap_or (part_at k parts) unit
inner_type source (PartAt k) (Y.Product d) = field_type (slice_get (fields_of source (Y.Product d)) k)
inner_type source (ElementAt k) (Y.Array element) = element
inner_type source s type = unit

abbrev pub type_there : Source → PlainType → Path → PlainType
type_there source type [] = type
type_there source type (s ∷ path) = type_there source (inner_type source s type) path

abbrev pub unset_parts : PlainTypes → Vals
unset_parts Y.End = No
unset_parts (Y.More first rest) = And Unset (unset_parts rest)

abbrev pub in_parts : Source → PlainType → Val
in_parts source (Y.Tuple parts) = Tuple (unset_parts parts)
in_parts source (Y.Product d) = Product d (blanks (fields_of source (Y.Product d)))
in_parts source type = Unset

-- the value at this path of an entry of this type
abbrev pub parted : Source → PlainType → (before : Path) → Val → Val
parted source type before Unset = in_parts source (type_there source type before)
parted source type before v = v

abbrev pub put_after : Source → PlainType → (before path : Path) → (new old : Val) → Val
put_after source type before [] new old = new
put_after source type before (s ∷ path) new old =
    let whole = parted source type before old in
    with_part s (put_after source type (before ++ s ∷ []) path new (part s whole)) whole

-- the value of an entry of this type, with another one at a path
abbrev pub put_at : Source → PlainType → Path → (new old : Val) → Val
put_at source type path new old = put_after source type [] path new old

-- ENTRIES

-- Entries that are owned are deinitialised where they end. What is lent is put back, by the caller. A bound projection has its
-- use, the place that it opened, the variables and projections that it lends, and its temporaries. A temporary that is held dies
-- with a projection or a subscript.
pub data Standing : Type 0 where
  Owned : Standing
  OnlyLent : Standing
  Bound : Use → Opened → (from : List ℕ) → (temporaries : List ℕ) → Standing
  Held : Standing

-- an entry of the environment
pub record Entry : Type 0 where
  pub root : Root
  pub type : PlainType
  pub value : Val
  pub standing : Standing

-- the variables, parameters and projections, and the temporaries, each the newest first
pub record Env : Type 0 where
  pub locals : List Entry
  pub temporaries : List Entry

abbrev pub value_among : Root → List Entry → Val
value_among root [] = Unset
value_among root (e ∷ more) = cond (same_root e.root root) e.value (value_among root more)

-- the value of an entry
abbrev pub value_of : Root → Env → Val
value_of (Local node) env = value_among (Local node) env.locals
value_of Itself env = value_among Itself env.locals
value_of (Temporary node) env = value_among (Temporary node) env.temporaries

abbrev pub changed_if : Bool → (Entry → Entry) → Entry → (more changed : List Entry) → List Entry
changed_if true f e more changed = f e ∷ more
changed_if false f e more changed = e ∷ changed

-- the newest entry with this root is changed
abbrev pub changed : (Entry → Entry) → Root → List Entry → List Entry
changed f root [] = []
changed f root (e ∷ more) = changed_if (same_root e.root root) f e more (changed f root more)

abbrev pub with_locals : Env → List Entry → Env
with_locals env locals = record env { locals = locals }

abbrev pub with_temporaries : Env → List Entry → Env
with_temporaries env temporaries = record env { temporaries = temporaries }

abbrev pub with_changed : (Entry → Entry) → Root → Env → Env
with_changed f (Local node) env = with_locals env (changed f (Local node) env.locals)
with_changed f Itself env = with_locals env (changed f Itself env.locals)
with_changed f (Temporary node) env = with_temporaries env (changed f (Temporary node) env.temporaries)

-- The value of an entry gets another value at a path.
abbrev pub put_in : Source → Root → Path → Val → Env → Env
put_in source root path new env = with_changed (λ e. record e { value = put_at source e.type path new e.value }) root env

-- A temporary is held.
abbrev pub hold : (temporary : ℕ) → Env → Env
hold node env = with_changed (λ e. record e { standing = Held }) (Temporary node) env

abbrev pub without_among : Root → List Entry → List Entry
without_among root [] = []
without_among root (e ∷ more) = cond (same_root e.root root) more (e ∷ without_among root more)

-- the environment without a temporary
abbrev pub without : (temporary : ℕ) → Env → Env
without node env = with_temporaries env (without_among (Temporary node) env.temporaries)
