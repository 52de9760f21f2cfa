-- How places are opened and closed, and the four steps of a call.
use Rattle.std.specs.Prelude.{ℕ, Bool, true, false, List, [], ◌∷◌, reverse, Option, Some, None}
use Rattle.hy_base.specs.declared.position.Span.{Span}
use Rattle.hy_base.specs.declared.run.TrapKind.TheVariants as trap
use Rattle.hy_tree.specs.Tree as T
use Rattle.hy_tree.specs.Names.{own_name}
use Rattle.hy_tree.specs.declared.declaration.CallableKind.TheVariants as kind
use Rattle.hy_types.specs.Types.{PlainType}
use Rattle.hy_signatures.specs.Declarations.{Source, callable_at, callable_named, members_of}
use Rattle.hy_signatures.specs.Signatures as S
use Rattle.hy_signatures.specs.Signatures.{Callee}
use Rattle.hy_check.specs.Uses as U
use Rattle.hy_check.specs.Uses.{Use, Sig}
use Rattle.hy_core.specs.Operators.{index_in}
use Rattle.hy_core.specs.Values.{Val, Unset, many, part, PartAt, ElementAt, Path}
use Rattle.hy_copying.specs.Kinds.{elements_in, type_named}
use Rattle.hy_copying.specs.Known.{Known}
use Rattle.hy_copying.specs.Runs.{Came, Returned, Yielded, Halted}
use Rattle.hy_copying.specs.Places.{Root, Located, Rooted, PartIn, ElementIn, YieldedIn, Arguments, NoArgument, Moved, Lent, Opened, InEntry}
use Rattle.hy_copying.specs.Places.{InYielded, Openeds}
use Rattle.hy_copying.specs.Places.{NoneOpen, NotOpen, AlsoOpen, temporaries_in, inner, put_at, value_of, put_in, hold}
use Rattle.hy_copying.specs.Does.{Gives, Stops, Does, Acts, ◌>>=◌, ◌>>◌, give, nothing, traps, impossible, when, count, turn, changes, slides}
use Rattle.hy_copying.specs.Lives.{Later, first, rest, deinitialises, let_all_go}

-- BY USE

-- a place that is lent for change, filled or moved from has another value when it closes
abbrev pub is_changed : Use → Bool
is_changed U.Read = false
is_changed U.Let = false
is_changed U.Inout = true
is_changed U.Set = true
is_changed U.Sink = true
is_changed U.Assigned = true
is_changed U.Compound = true

-- a place that is filled is unset first
abbrev pub is_filled : Use → Bool
is_filled U.Read = false
is_filled U.Let = false
is_filled U.Inout = false
is_filled U.Set = true
is_filled U.Sink = false
is_filled U.Assigned = true
is_filled U.Compound = false

abbrev pub when_changed : Bool → Val → Option Val
when_changed true v = Some v
when_changed false v = None

-- what is put back where such a use ends with this value
abbrev pub put_back : Use → Val → Option Val
put_back used v = when_changed (is_changed used) v

-- what a call begins with in a place that is used so
abbrev pub starts : Later → (filled : Bool) → Val → Does Val
starts later false v = give v
starts later true v = do
  deinitialises later v
  give Unset

-- CLOSING

abbrev pub yielded_value : PlainType → Path → (yielded : Val) → Option Val → Known → Val
yielded_value type path yielded None known = yielded
yielded_value type path yielded (Some v) known = put_at known.source type path v yielded

abbrev pub put_or_not : Known → Opened → Option Val → Acts
put_or_not known (InEntry root path) (Some v) = changes (λ env. put_in known.source root path v env)
put_or_not known other v = nothing

-- An open place is closed, with the value that is put back, or with none. What was put into a yielded part goes on through the
-- slide of its subscript; then its arguments close in reverse, each with the value that its parameter has, and its temporaries die.
abbrev mutual
  pub closes : Later → Opened → Option Val → Acts
  closes later (InEntry root path) v = put_or_not later.known (InEntry root path) v
  closes later (InYielded type yielded slide places temporaries path) v = do
    parameters ← slides slide (yielded_value type path yielded v later.known)
    all_close later places parameters
    let_all_go later (reverse temporaries)

  pub all_close : Later → Openeds → (values : List Val) → Acts
  all_close later NoneOpen values = nothing
  all_close later (NotOpen more) values = all_close later more (rest values)
  all_close later (AlsoOpen used place more) values = do
    all_close later more (rest values)
    closes later place (put_back used (first values))

-- BODIES

abbrev pub node_of_member : Option T.Callable → ℕ
node_of_member None = 0
node_of_member (Some c) = c.at.node

abbrev pub met_by : Source → PlainType → Option T.Callable → ℕ
met_by source type None = 0
met_by source type (Some requirement) = node_of_member (callable_named kind.Function (own_name requirement) (members_of source type))

-- The declaration that is called. What a trait requires is the member with its name and labels in the type that the receiver's value
-- names.
abbrev pub called : Source → Callee → (receiver : Val) → ℕ
called source (S.Declared node) receiver = node
called source (S.Required requirement place) receiver = met_by source (type_named receiver) (callable_at requirement source.decls)
called source (S.Predeclared number) receiver = 0
called source (S.Initialiser product) receiver = 0
called source (S.Conversion to) receiver = 0
called source S.Element receiver = 0

-- the body that is called, once its turn is taken
abbrev pub enters : Later → Sig → List Val → Does Came
enters later sig values env s = Gives (later.body (called later.known.source sig.callee (first values)) sig.variant values s) env s

-- OPENING

-- an open place with its value
pub record Place : Type 0 where
  pub opened : Opened
  pub value : Val

-- open arguments, with the values that their parameters start with
pub record Places : Type 0 where
  pub opened : Openeds
  pub values : List Val

abbrev pub part_of : Place → ℕ → Place
part_of p k = record { opened = inner (PartAt k) p.opened; value = part (PartAt k) p.value }

abbrev pub element_of : Place → ℕ → Place
element_of p k = record { opened = inner (ElementAt k) p.opened; value = part (ElementAt k) p.value }

-- an index outside the array traps, and is not counted
abbrev pub at_index : Place → Option ℕ → Span → Does Place
at_index p None span = traps trap.Index span
at_index p (Some k) span = do
  count
  give (element_of p k)

-- These temporaries die with a projection or a subscript.
abbrev pub holds_all : List ℕ → Acts
holds_all [] = nothing
holds_all (node ∷ more) = do
  changes (λ env. hold node env)
  holds_all more

abbrev pub at_root : Root → Does Place
at_root root env s = Gives (record { opened = InEntry root []; value = value_of root env }) env s

-- what a ramp yields, with its slide, once the places that it was lent are open
abbrev pub yielded : PlainType → Openeds → (temporaries : List ℕ) → Came → Does Place
yielded type places temporaries (Returned v parameters t) env s = impossible env t
yielded type places temporaries (Yielded v t slide) env s =
    Gives (record { opened = InYielded type v slide places temporaries []; value = v }) env t
yielded type places temporaries (Halted h t) env s = Stops h t

abbrev pub ramps : Later → Sig → PlainType → (temporaries : List ℕ) → Places → Does Place
ramps later sig type temporaries places = do
  holds_all temporaries
  turn
  came ← enters later sig places.values
  yielded type places.opened temporaries came

abbrev pub also_open : Use → Place → Val → Places → Places
also_open used p v more = record { opened = AlsoOpen used p.opened more.opened; values = v ∷ more.values }

abbrev pub not_open : Val → Places → Places
not_open v more = record { opened = NotOpen more.opened; values = v ∷ more.values }

-- A place is opened from its root outwards: an index is checked, and a subscript step opens its arguments and runs the ramp.
-- Arguments are opened from left to right. Where they are counted, each is once it is open; and then the value in a place that is to
-- be filled is deinitialised, before the next one is opened.
abbrev mutual
  pub opens : Later → Located → Does Place
  opens later (Rooted root) = at_root root
  opens later (PartIn whole k) = do
    place ← opens later whole
    give (part_of place k)
  opens later (ElementIn whole index span) = do
    place ← opens later whole
    at_index place (index_in (many (elements_in place.value)) index) span
  opens later (YieldedIn sig type arguments) = do
    places ← all_open later true arguments
    ramps later sig type (temporaries_in arguments) places

  pub all_open : Later → (counted : Bool) → Arguments → Does Places
  all_open later counted NoArgument = give (record { opened = NoneOpen; values = [] })
  all_open later counted (Moved v more) = do
    places ← all_open later counted more
    give (not_open v places)
  all_open later counted (Lent used located more) = do
    place ← opens later located
    when counted count nothing
    v ← starts later (is_filled used) place.value
    places ← all_open later counted more
    give (also_open used place v places)

-- THE FOUR STEPS OF A CALL
-- The value parts of its arguments are known. The places are opened, the body runs, and the places close in reverse.

-- what a body gives, and the values of its parameters at the end
pub record Worked : Type 0 where
  pub given : Val
  pub left : List Val

-- Places are open while a body runs on their values.
abbrev pub with_open : Later → (counted : Bool) → Arguments → (body : List Val → Does Worked) → Does Val
with_open later counted arguments body = do
  places ← all_open later counted arguments
  worked ← body places.values
  all_close later places.opened worked.left
  give worked.given

abbrev pub came_back : Came → Does Worked
came_back (Returned v parameters t) env s = Gives (record { given = v; left = parameters }) env t
came_back (Yielded v t slide) env s = impossible env t
came_back (Halted h t) env s = Stops h t

abbrev pub body_runs : Later → Sig → List Val → Does Worked
body_runs later sig values = do
  turn
  came ← enters later sig values
  came_back came

-- a call of a function, a method, or a variant of a subscript that yields nothing
abbrev pub calls : Later → Sig → Arguments → Does Val
calls later sig arguments = with_open later true arguments (body_runs later sig)

-- a body that gives a value and changes nothing
abbrev pub gives_only : Val → (values : List Val) → Does Worked
gives_only v values = give (record { given = v; left = values })

abbrev pub read_value : List Val → Does Worked
read_value values = gives_only (first values) values

-- A place is opened, its value is read, and it closes.
abbrev pub reads : Later → Located → Does Val
reads later place = with_open later false (Lent U.Read place NoArgument) read_value

abbrev pub moved_value : List Val → Does Worked
moved_value values = give (record { given = first values; left = Unset ∷ [] })

-- A place gives its value, and is unset then.
abbrev pub moves : Later → Located → Does Val
moves later place = with_open later false (Lent U.Sink place NoArgument) moved_value
