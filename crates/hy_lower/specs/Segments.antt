-- The segment of code of each form of statement.
use Rattle.std.specs.Prelude.{ℕ, zero, suc, ◌+◌, Bool, true, false, List, [], ◌∷◌, ◌++◌, Option, Some, None, ℤ, pos, slice_get, unwrap_or}
use Rattle.hy_core.specs.Plain.{Operator, Add, Sub, Mul, Div, Rem, Neg, Convert, Eq, Lt, Le, Not, NewArray, Push, Pop, Swap, Count, FreeArray, Print, Read}
use Rattle.hy_core.specs.Plain.{Check}
use Rattle.hy_core.specs.Plain as core
use Rattle.hy_core.specs.Control.{Form, Numbers, Flags, Tuples, Products, Arrays, Unknown}
use Rattle.hy_core.specs.Statements.{is_counted}
use Rattle.hy_object.specs.declared.instr.Instr.{Instr}
use Rattle.hy_object.specs.declared.instr.Instr.TheVariants as instr
use Rattle.hy_object.specs.declared.instr.Place.{Place}
use Rattle.hy_object.specs.declared.instr.Shown.{Shown}
use Rattle.hy_object.specs.declared.instr.Shown.TheVariants as shown
use Rattle.hy_object.specs.declared.instr.Way.{Way}
use Rattle.hy_object.specs.declared.instr.Way.TheVariants as way
use Rattle.hy_lower.specs.Frames.{Home, Words, Slot, on_the_way, Frame, home_of, slot_of}
use Rattle.hy_lower.specs.Arrays.{arrays_in}
use Rattle.hy_lower.specs.Places.{own, place, Line, place_at, form_at, place_size, element_size, type_of, opens, reached, closes, at, through}

abbrev pub way_of : Bool → Way
way_of true = way.Write
way_of false = way.Read

-- the number of a span, by its place in the list of a statement
abbrev pub span_at : List ℕ → ℕ → ℕ
span_at spans k = unwrap_or (slice_get spans k) 0

abbrev pub shown_as : Form → Shown
shown_as (Numbers t) = shown.Int
shown_as Flags = shown.Bool
shown_as (Tuples parts) = shown.Int
shown_as (Products d parts) = shown.Int
shown_as (Arrays t) = shown.Int
shown_as Unknown = shown.Int

-- the slot of the first that is handed over
abbrev pub first_slot : Frame → List ℕ → ℕ
first_slot b [] = zero
first_slot b (l ∷ ls) = slot_of b l

-- frees the arrays at these words of a place
abbrev pub frees : Place → List ℕ → List Instr
frees x [] = []
frees x (offset ∷ offsets) = instr.FreeArray (place x.base (x.offset + offset)) ∷ frees x offsets

-- The last access that a `Lend` opens is the local's: that of the last index step, or where the place does not end in one, one to
-- its words.
abbrev pub last : Bool → (slot : ℕ) → Place → (words : ℕ) → Way → List Instr
last false slot x words w = []
last true slot x words w = instr.Lend slot x words w ∷ []

module _ (b : Frame) where
  -- VALUES: from a place to scratch words, and from there to a place

  abbrev pub read : core.Place → (word : ℕ) → List Instr
  read p w = through b way.Read p (instr.Copy (own w) (at b p) (place_size b p) ∷ [])

  abbrev pub take : core.Place → (word : ℕ) → List Instr
  take p w = through b way.Write p (instr.Move (own w) (at b p) (place_size b p) ∷ [])

  abbrev pub write : core.Place → (word : ℕ) → List Instr
  write p w = through b way.Write p (instr.Move (at b p) (own w) (place_size b p) ∷ [])

  -- the truth value of a local
  abbrev pub test : ℕ → List Instr
  test l = instr.Copy (own b.scratch) (place_at (home_of b l)) 1 ∷ []

  -- words, one after another
  abbrev pub loads : (word : ℕ) → List core.Place → List Instr
  loads w [] = []
  loads w (p ∷ ps) = read p w ++ loads (suc w) ps

  -- values, one after another
  abbrev pub moves : (word : ℕ) → List core.Place → List Instr
  moves w [] = []
  moves w (p ∷ ps) = take p w ++ moves (w + place_size b p) ps

  abbrev pub stores : Option core.Place → List Instr
  stores None = []
  stores (Some p) = write p b.scratch

  -- OPERATIONS on scratch words

  abbrev pub first_form : List core.Place → Form
  first_form [] = Unknown
  first_form (p ∷ ps) = form_at b (type_of b p)

  abbrev pub computes : Operator → List core.Place → List ℕ → List Instr
  computes Add from spans = instr.Add b.scratch b.scratch (suc b.scratch) (span_at spans 0) ∷ []
  computes Sub from spans = instr.Sub b.scratch b.scratch (suc b.scratch) (span_at spans 0) ∷ []
  computes Mul from spans = instr.Mul b.scratch b.scratch (suc b.scratch) (span_at spans 0) ∷ []
  computes Div from spans = instr.Div b.scratch b.scratch (suc b.scratch) (span_at spans 0) ∷ []
  computes Rem from spans = instr.Rem b.scratch b.scratch (suc b.scratch) (span_at spans 0) ∷ []
  computes Neg from spans = instr.Neg b.scratch b.scratch (span_at spans 0) ∷ []
  -- of an `Int` as an `Int`: the sum with 0 is the number, or does not fit
  computes (Convert t) from spans = instr.Const (suc b.scratch) (pos 0) ∷ instr.Add b.scratch b.scratch (suc b.scratch) (span_at spans 0) ∷ []
  computes Eq from spans = instr.Eq b.scratch b.scratch (suc b.scratch) ∷ []
  computes Lt from spans = instr.Lt b.scratch b.scratch (suc b.scratch) ∷ []
  computes Le from spans = instr.Le b.scratch b.scratch (suc b.scratch) ∷ []
  computes Not from spans = instr.Not b.scratch b.scratch ∷ []
  computes Print from spans = instr.Print b.scratch (shown_as (first_form from)) ∷ []
  computes Read from spans = instr.Read b.scratch (span_at spans 0) ∷ []
  computes Check from spans = instr.Check b.scratch (span_at spans 0) ∷ []
  computes NewArray from spans = []
  computes Push from spans = []
  computes Pop from spans = []
  computes Swap from spans = []
  computes Count from spans = []
  computes FreeArray from spans = []

  -- ARRAYS, where they stand

  abbrev pub new_array : Option core.Place → List Instr
  new_array None = []
  new_array (Some p) = through b way.Write p (instr.NewArray (at b p) ∷ [])

  abbrev pub push : List core.Place → List Instr
  push [] = []
  push (p ∷ ps) = moves b.scratch ps
      ++ through b way.Write p (instr.Grow (at b p) (element_size b p) ∷ instr.Push (at b p) b.scratch (element_size b p) ∷ [])

  abbrev pub pop : Option core.Place → List core.Place → List ℕ → List Instr
  pop to [] spans = []
  pop to (p ∷ ps) spans = through b way.Write p (instr.Pop (at b p) b.scratch (element_size b p) (span_at spans 0) ∷ []) ++ stores to

  abbrev pub swap : List core.Place → List ℕ → List Instr
  swap [] spans = []
  swap (p ∷ ps) spans = loads b.scratch ps
      ++ through b way.Write p (instr.Swap (at b p) b.scratch (suc b.scratch) (element_size b p) (span_at spans 0) (span_at spans 1) ∷ [])

  abbrev pub count : Option core.Place → List core.Place → List Instr
  count to [] = []
  count to (p ∷ ps) = through b way.Read p (instr.Count b.scratch (at b p) ∷ []) ++ stores to

  abbrev pub free_array : List core.Place → List Instr
  free_array [] = []
  free_array (p ∷ ps) = through b way.Write p (instr.FreeArray (at b p) ∷ [])

  abbrev pub scalar : Operator → Option core.Place → List core.Place → List ℕ → List Instr
  scalar operator to from spans = loads b.scratch from ++ (computes operator from spans ++ stores to)

  abbrev pub built : Operator → Option core.Place → List core.Place → List ℕ → List Instr
  built Add to from spans = scalar Add to from spans
  built Sub to from spans = scalar Sub to from spans
  built Mul to from spans = scalar Mul to from spans
  built Div to from spans = scalar Div to from spans
  built Rem to from spans = scalar Rem to from spans
  built Neg to from spans = scalar Neg to from spans
  built (Convert t) to from spans = scalar (Convert t) to from spans
  built Eq to from spans = scalar Eq to from spans
  built Lt to from spans = scalar Lt to from spans
  built Le to from spans = scalar Le to from spans
  built Not to from spans = scalar Not to from spans
  built NewArray to from spans = new_array to
  built Push to from spans = push from
  built Pop to from spans = pop to from spans
  built Swap to from spans = swap from spans
  built Count to from spans = count to from
  built FreeArray to from spans = free_array from
  built Print to from spans = scalar Print to from spans
  built Read to from spans = scalar Read to from spans
  built Check to from spans = scalar Check to from spans

  -- VALUES

  abbrev pub constant : (words : ℕ) → ℤ → List Instr
  constant zero n = []
  constant (suc words) n = instr.Const b.scratch n ∷ []

  abbrev pub set : core.Place → ℤ → List Instr
  set p n = constant (place_size b p) n ++ write p b.scratch

  abbrev pub move : (to from : core.Place) → List Instr
  move to from = take from b.scratch ++ write to b.scratch

  abbrev pub copy : (to from : core.Place) → List Instr
  copy to from = read from b.scratch ++ write to b.scratch

  -- the arrays in what is given up are freed
  abbrev pub drop : core.Place → List Instr
  drop p = through b way.Write p (frees (at b p) (arrays_in b.types b.sizes (type_of b p)))

  -- LENDS

  abbrev pub lend_to : Home → core.Place → Way → List Instr
  lend_to (Words w) p way = []
  lend_to (Slot slot first inner) p way =
      let line : Line = record { next = first; left = on_the_way p.steps; last = slot } in
      opens b way line p ++ last (is_counted p.steps) slot (reached b line p) (place_size b p) way

  abbrev pub lend : (to : ℕ) → core.Place → Bool → List Instr
  lend to p w = lend_to (home_of b to) p (way_of w)

  abbrev pub close_in : Home → List Instr
  close_in (Words w) = []
  close_in (Slot slot first inner) = instr.Close slot ∷ closes first inner

  abbrev pub close : ℕ → List Instr
  close l = close_in (home_of b l)

  -- CALLS

  abbrev pub call : (fun : ℕ) → (lent : List ℕ) → (owned : List core.Place) → core.Place → List Instr
  call fun lent owned to = moves b.scratch owned ++ (instr.Call fun (first_slot b lent) b.scratch ∷ write to b.scratch)

  abbrev pub project : (fun : ℕ) → (lent : List ℕ) → (owned : List core.Place) → (to : ℕ) → List Instr
  project fun lent owned to = moves b.scratch owned ++ instr.Project fun (first_slot b lent) b.scratch (slot_of b to) ∷ []

  abbrev pub leave : core.Place → List Instr
  leave from = take from b.scratch ++ instr.Return b.scratch ∷ []
