-- The flow of a body, computed: from the flow state before it, those with which it goes on, or none where a statement is not allowed.
use Rattle.std.specs.Prelude.{◌==◌, nat_lt, ℕ, zero, suc, Bool, true, false, not, ◌&&◌, ◌||◌, if◌then◌else◌, List, [], ◌∷◌, ◌++◌, length, Option, Some, None}
use Rattle.hy_types.specs.declared.kinds.TyId.{TyId}
use Rattle.hy_types.specs.Types.{Table}
use Rattle.hy_core.specs.Plain.{Step, Part, Index, Place, Operator, Add, Sub, Mul, Div, Rem, Neg, Convert, Eq, Lt, Le, Not, NewArray, Push, Pop, Swap}
use Rattle.hy_core.specs.Plain.{Count, FreeArray, Print, Read, Check, Stmts, Done, Then, Stmt, Built, Set, Lend, Close, Move, Copy, Drop, Call, Project}
use Rattle.hy_core.specs.Plain.{Slide, Yield, If, While, Break, Continue, Leave, Way, Reads, Writes, Fun, lent_types, is_ramp, Core}
use Rattle.hy_core.specs.Values.{PartAt, ElementAt, selector_eq, Path}
use Rattle.hy_core.specs.Control.{Form, Numbers, Flags, Tuples, Products, Arrays, Unknown, form, parts_of, local_type, Stage, Deinitialises, GivesUp}
use Rattle.hy_core.specs.Statements.{way}
use Rattle.hy_core.specs.Typing.{place_type, still, still_type}
use Rattle.hy_core.specs.Shaped.{filled_by}
use Rattle.hy_core.specs.Flow.{InitState, IsSet, IsUnset, IsKnown, IsEmpty, IsEmptyWithout, IsDoubtful, IsSetWith, InitMap}
use Rattle.hy_core.specs.Flow.{all_set, none_set, Holder, InLocal, InSubscript, OpenPlace, Loan, Status, Own, Param}
use Rattle.hy_core.specs.Flow.{Opened, Bound, FlowState, Terms, Signature, Context, with_status, way_of, is_exact, still_map, given, stored, opened}
use Rattle.hy_core.specs.Flow.{come_back, come_from, held_by, all_given, first, context_of, signatures_of}
use Rattle.hy_core.specs.Flow.{set_to, where_is, form_or_unknown, with_init, stored_as, changed}
use Rattle.hy_core.specs.Flow.{is_whole_local, counted, compared}

-- TESTS

abbrev pub every : {A : Type 0} → (A → Bool) → List A → Bool
every f [] = true
every f (a ∷ more) = f a && every f more

abbrev pub member : ℕ → List ℕ → Bool
member l [] = false
member l (k ∷ more) = (l == k) || member l more

abbrev pub way_eq : Way → Way → Bool
way_eq Reads Reads = true
way_eq Reads Writes = false
way_eq Writes Reads = false
way_eq Writes Writes = true

abbrev pub bool_eq : Bool → Bool → Bool
bool_eq true b = b
bool_eq false b = not b

abbrev pub path_eq : Path → Path → Bool
path_eq [] [] = true
path_eq [] (t ∷ q) = false
path_eq (s ∷ p) [] = false
path_eq (s ∷ p) (t ∷ q) = selector_eq s t && path_eq p q

-- neither place is in the other, and they are no two elements of one array
abbrev pub are_apart : Path → Path → Bool
are_apart [] q = false
are_apart (s ∷ p) [] = false
are_apart (PartAt i ∷ p) (PartAt j ∷ q) = not (i == j) || are_apart p q
are_apart (PartAt i ∷ p) (ElementAt j ∷ q) = false
are_apart (ElementAt i ∷ p) (PartAt j ∷ q) = false
are_apart (ElementAt i ∷ p) (ElementAt j ∷ q) = false

abbrev pub is_set_so : InitState → Bool
is_set_so IsSet = true
is_set_so IsUnset = false
is_set_so (IsKnown b) = true
is_set_so IsEmpty = true
is_set_so (IsEmptyWithout l) = true
is_set_so IsDoubtful = false
is_set_so (IsSetWith f) = false

abbrev pub is_unset : InitState → Bool
is_unset IsSet = false
is_unset IsUnset = true
is_unset (IsKnown b) = false
is_unset IsEmpty = false
is_unset (IsEmptyWithout l) = false
is_unset IsDoubtful = false
is_unset (IsSetWith f) = false

abbrev pub is_known : Bool → InitState → Bool
is_known b IsSet = false
is_known b IsUnset = false
is_known b (IsKnown c) = bool_eq c b
is_known b IsEmpty = false
is_known b (IsEmptyWithout l) = false
is_known b IsDoubtful = false
is_known b (IsSetWith f) = false

abbrev pub is_doubtful : InitState → Bool
is_doubtful IsSet = false
is_doubtful IsUnset = false
is_doubtful (IsKnown b) = false
is_doubtful IsEmpty = false
is_doubtful (IsEmptyWithout l) = false
is_doubtful IsDoubtful = true
is_doubtful (IsSetWith f) = false

abbrev pub is_set_with : ℕ → InitState → Bool
is_set_with f IsSet = false
is_set_with f IsUnset = false
is_set_with f (IsKnown b) = false
is_set_with f IsEmpty = false
is_set_with f (IsEmptyWithout l) = false
is_set_with f IsDoubtful = false
is_set_with f (IsSetWith k) = k == f

abbrev pub is_empty : InitState → Bool
is_empty IsSet = false
is_empty IsUnset = false
is_empty (IsKnown b) = false
is_empty IsEmpty = true
is_empty (IsEmptyWithout l) = false
is_empty IsDoubtful = false
is_empty (IsSetWith f) = false

abbrev pub is_empty_without : ℕ → InitState → Bool
is_empty_without l IsSet = false
is_empty_without l IsUnset = false
is_empty_without l (IsKnown b) = false
is_empty_without l IsEmpty = false
is_empty_without l (IsEmptyWithout k) = k == l
is_empty_without l IsDoubtful = false
is_empty_without l (IsSetWith f) = false

-- the state does not rest on the local
abbrev pub is_not_tied : ℕ → InitState → Bool
is_not_tied l s = not (is_empty_without l s) && not (is_set_with l s)

-- what counts as the state that is wanted
abbrev pub counts : (wanted : InitState) → InitState → Bool
counts IsSet s = is_set_so s
counts IsUnset s = is_unset s
counts (IsKnown b) s = is_known b s
counts IsEmpty s = is_empty s
counts (IsEmptyWithout l) s = false
counts IsDoubtful s = false
counts (IsSetWith f) s = false

abbrev pub is_core : Stage → Bool
is_core Deinitialises = true
is_core GivesUp = false

abbrev pub holder_eq : Holder → Holder → Bool
holder_eq (InLocal l) (InLocal k) = l == k
holder_eq (InLocal l) (InSubscript k) = false
holder_eq (InSubscript l) (InLocal k) = false
holder_eq (InSubscript l) (InSubscript k) = l == k

abbrev pub open_place_eq : OpenPlace → OpenPlace → Bool
open_place_eq e f = holder_eq e.holder f.holder && ((e.base == f.base) && (path_eq e.path f.path && way_eq e.way f.way))

abbrev pub loan_eq : Loan → Loan → Bool
loan_eq o p = (o.base == p.base) && (path_eq o.path p.path && (bool_eq o.exact p.exact && way_eq o.way p.way))

abbrev pub status_eq : Status → Status → Bool
status_eq Own Own = true
status_eq Own (Param w) = false
status_eq Own (Opened o) = false
status_eq Own (Bound w) = false
status_eq (Param w) Own = false
status_eq (Param w) (Param v) = way_eq w v
status_eq (Param w) (Opened o) = false
status_eq (Param w) (Bound v) = false
status_eq (Opened o) Own = false
status_eq (Opened o) (Param w) = false
status_eq (Opened o) (Opened p) = loan_eq o p
status_eq (Opened o) (Bound w) = false
status_eq (Bound w) Own = false
status_eq (Bound w) (Param v) = false
status_eq (Bound w) (Opened o) = false
status_eq (Bound w) (Bound v) = way_eq w v

abbrev pub is_own : Status → Bool
is_own s = status_eq s Own

-- the way in which a local is open
abbrev pub is_open : Status → Way → Bool
is_open Own w = false
is_open (Param v) w = way_eq v w
is_open (Opened o) w = way_eq o.way w
is_open (Bound v) w = way_eq v w

-- and here it is wanted that it is there
abbrev pub there_and : {A : Type 0} → Option A → (A → Bool) → Bool
there_and None f = false
there_and (Some a) f = f a

abbrev pub has_no_parts : List TyId → Bool
has_no_parts [] = true
has_no_parts (t ∷ ts) = false

abbrev pub in_local : Holder → Bool
in_local (InLocal l) = true
in_local (InSubscript l) = false

-- of what is not there nothing is wanted
abbrev pub if_some : {A : Type 0} → Option A → (A → Bool) → Bool
if_some None f = true
if_some (Some a) f = f a

-- THE PARTS WITHOUT PARTS of a type, each with its form

abbrev pub every_part : (TyId → (Form → Path → Bool) → Bool) → ℕ → List TyId → (Form → Path → Bool) → Bool
every_part on i [] f = true
every_part on i (t ∷ ts) f = on t (λ a q. f a (PartAt i ∷ q)) && every_part on (suc i) ts f

abbrev pub own_or_parts : (TyId → (Form → Path → Bool) → Bool) → Form → List TyId → (Form → Path → Bool) → Bool
own_or_parts on a [] f = f a []
own_or_parts on a (t ∷ ts) f = every_part on zero (t ∷ ts) f

-- down to a depth, below which nothing is found to be so
abbrev pub every_leaf : Table → (depth : ℕ) → TyId → (Form → Path → Bool) → Bool
every_leaf types zero t f = false
every_leaf types (suc n) t f = own_or_parts (every_leaf types n) (form types t) (parts_of (form types t)) f

-- no type of a table is deeper than it has types
abbrev pub depth_of : Table → ℕ
depth_of types = suc (length types.types)

-- each part of the type stands so
abbrev pub each_is : Table → TyId → InitMap → InitState → Bool
each_is types t c s = every_leaf types (depth_of types) t (λ a q. counts s (c q))

abbrev pub is_array : Form → Bool
is_array (Numbers t) = false
is_array Flags = false
is_array (Tuples parts) = false
is_array (Products d parts) = false
is_array (Arrays t) = true
is_array Unknown = false

abbrev pub is_flags : Form → Bool
is_flags (Numbers t) = false
is_flags Flags = true
is_flags (Tuples parts) = false
is_flags (Products d parts) = false
is_flags (Arrays t) = false
is_flags Unknown = false

abbrev pub each_array : Table → TyId → (Path → Bool) → Bool
each_array types t f = every_leaf types (depth_of types) t (λ a q. not (is_array a) || f q)

-- WHERE A BODY GOES ON: at the next statement, after the innermost loop, and at its next pass, where a path leads there

pub record Exits : Type 0 where
  pub next : Option FlowState
  pub breaks : Option FlowState
  pub again : Option FlowState

abbrev pub goes_to : FlowState → Exits
goes_to g = record { next = Some g; breaks = None; again = None }

abbrev pub and_then : {A B : Type 0} → Option A → (A → Option B) → Option B
and_then None f = None
and_then (Some a) f = f a

abbrev pub is_none : {A : Type 0} → Option A → Bool
is_none None = true
is_none (Some a) = false

-- where a test holds, the body goes on so
abbrev pub when : Bool → FlowState → Option Exits
when b g = if b then Some (goes_to g) else None

-- no path leads out of a loop that is not there
abbrev pub is_whole_flow : Option Exits → Bool
is_whole_flow None = false
is_whole_flow (Some e) = is_none e.breaks && is_none e.again

-- nothing follows where no path leads
abbrev pub ends : Stmts → Exits → Option Exits
ends Done e = Some e
ends (Then s ss) e = None

-- what is open but for what one holds
abbrev pub without : Holder → List OpenPlace → List OpenPlace
without h [] = []
without h (e ∷ more) = if holder_eq e.holder h then without h more else e ∷ without h more

-- only a checked core frees an array
abbrev pub frees : Stage → Bool
frees Deinitialises = false
frees GivesUp = true

module _ (x : Context) where
  abbrev pub types : Table
  types = x.core.types

  abbrev pub locals : ℕ
  locals = length (lent_types x.fun ++ (x.fun.owned ++ x.fun.locals))

  -- all locals below a number
  abbrev pub each_local : ℕ → (ℕ → Bool) → Bool
  each_local zero f = true
  each_local (suc n) f = f n && each_local n f

  -- WHAT MAY BE USED

  abbrev pub each_open_place : FlowState → ℕ → (OpenPlace → Bool) → Bool
  each_open_place g l f = every (λ e. not (e.base == l) || f e) g.open_places

  abbrev pub is_shut : FlowState → ℕ → Bool
  is_shut g l = each_open_place g l (λ e. false)

  abbrev pub may_read : FlowState → ℕ → Path → Bool
  may_read g l p = each_open_place g l (λ e. in_local e.holder && (way_eq e.way Reads || are_apart e.path p))

  abbrev pub may_write : FlowState → ℕ → Path → Bool
  may_write g l p = way_eq (way_of (g.status l)) Writes && each_open_place g l (λ e. in_local e.holder && are_apart e.path p)

  abbrev pub may_open : FlowState → ℕ → Path → Way → Bool
  may_open g l p Reads = may_read g l p
  may_open g l p Writes = may_write g l p

  abbrev pub indexes_ok : FlowState → List Step → Bool
  indexes_ok g [] = true
  indexes_ok g (Part i ∷ steps) = indexes_ok g steps
  indexes_ok g (Index l s ∷ steps) = may_read g l [] && (is_set_so (g.init l []) && indexes_ok g steps)

  abbrev pub is_live : FlowState → ℕ → Bool
  is_live g l = not (is_own (g.status l)) || not (member l (filled_by x.fun.body))

  abbrev pub set_place : FlowState → Place → Bool
  set_place g p = if_some (still_type types x.fun p) (λ t. each_is types t (still_map x g p) IsSet)

  abbrev pub local_is : FlowState → ℕ → InitState → Bool
  local_is g l s = if_some (local_type x.fun l) (λ t. each_is types t (g.init l) s)

  -- the state of no part rests on the local
  abbrev pub untied : FlowState → ℕ → Bool
  untied g f =
      each_local locals (λ l. if_some (local_type x.fun l) (λ t. every_leaf types (depth_of types) t (λ a q. is_not_tied f (g.init l q))))

  abbrev pub entered : FlowState → Place → Bool
  entered g p = is_exact p.steps || set_place g p

  abbrev pub no_array : FlowState → Place → Bool → Bool
  no_array g p true = if_some (place_type types x.fun p) (λ t. each_array types t (λ q. is_unset (still_map x g p q)))
  no_array g p false = if_some (place_type types x.fun p) (λ t. each_array types t (λ q. false))

  abbrev pub read_ok : FlowState → Place → Bool
  read_ok g p = is_live g p.local && (indexes_ok g p.steps && (may_read g p.local (still p.steps) && set_place g p))

  abbrev pub change_ok : FlowState → Place → Bool
  change_ok g p = is_live g p.local && (indexes_ok g p.steps && (may_write g p.local (still p.steps) && (set_place g p && untied g p.local)))

  abbrev pub store_ok : FlowState → Place → Bool
  store_ok g p = is_live g p.local && (indexes_ok g p.steps && (may_write g p.local (still p.steps)
      && (entered g p && (no_array g p (is_exact p.steps) && untied g p.local))))

  abbrev pub give_ok : FlowState → Place → Bool
  give_ok g p = is_live g p.local && (is_exact p.steps && (may_write g p.local (still p.steps) && untied g p.local))

  abbrev pub take_ok : FlowState → Place → Bool
  take_ok g p = give_ok g p && set_place g p

  -- ONE FLOW STATE INTO ANOTHER

  abbrev pub is_flag : ℕ → Bool
  is_flag f = is_flags (form_or_unknown x (local_type x.fun f))

  abbrev pub knows : FlowState → ℕ → Bool → Bool
  knows g l b = there_and (local_type x.fun l) (λ t. has_no_parts (parts_of (form types t))) && is_known b (g.init l [])

  -- a part in the first state may be said to be in the second
  abbrev pub becomes : FlowState → InitState → InitState → Bool
  becomes g s IsSet = is_set_so s
  becomes g s IsUnset = is_unset s
  becomes g s (IsKnown b) = is_known b s
  becomes g s IsEmpty = is_empty s
  becomes g s (IsEmptyWithout l) = is_empty_without l s || (knows g l true && is_set_so s || knows g l false && is_empty s)
  becomes g s IsDoubtful = is_doubtful s || is_core x.stage
  becomes g s (IsSetWith f) = is_set_with f s || is_flag f && (knows g f true && is_set_so s || knows g f false && is_unset s)

  -- what they say of each local agrees, and what is open in the first is open in the second
  abbrev pub flows_into : FlowState → FlowState → Bool
  flows_into g d =
      each_local locals (λ l. status_eq (g.status l) (d.status l) && if_some (local_type x.fun l)
      (λ t. every_leaf types (depth_of types) t (λ a q. becomes g (g.init l q) (d.init l q))))
      && (every (λ e. not (every (λ f. not (open_place_eq e f)) d.open_places)) g.open_places && bool_eq g.yielded d.yielded)

  -- the local of that number or below that passes a test
  abbrev pub pick : ℕ → (ℕ → Bool) → ℕ
  pick zero f = zero
  pick (suc n) f = if f n then n else pick n f

  -- The state of a part where two paths meet, in each of which its state is known: what both may be said to be, if there is such. In
  -- a checked core it is doubtful only with a local that is known, in each, to say whether it is set.
  abbrev pub joined_state : (g d : FlowState) → InitState → InitState → InitState
  joined_state g d s t = if becomes d t s then s else if becomes g s t then t else if is_set_so s && is_set_so t then IsSet else if is_core x.stage
      then IsDoubtful else IsSetWith (pick locals (λ f. becomes g s (IsSetWith f) && becomes d t (IsSetWith f)))

  -- the first, with what both may be said to be
  abbrev pub joined : FlowState → FlowState → FlowState
  joined g d = record g { init = λ l q. joined_state g d (g.init l q) (d.init l q) }

  abbrev pub flows_in : Option FlowState → FlowState → Bool
  flows_in None d = true
  flows_in (Some g) d = flows_into g d

  -- the state in which two paths meet, if they meet
  abbrev pub meet : Option FlowState → Option FlowState → Option (Option FlowState)
  meet None b = Some b
  meet (Some a) None = Some (Some a)
  meet (Some a) (Some b) = let d = joined a b in if flows_into a d && flows_into b d then Some (Some d) else None

  abbrev pub meet_exits : (next : Option FlowState) → Exits → Exits → Option Exits
  meet_exits next a b =
      and_then (meet a.breaks b.breaks) (λ breaks. and_then (meet a.again b.again) (λ again. Some (record { next = next; breaks = breaks; again = again })))

  abbrev pub either : Exits → Exits → Option Exits
  either a b = and_then (meet a.next b.next) (λ next. meet_exits next a b)

  -- STATEMENTS

  abbrev pub stores : FlowState → Option Place → Option Exits
  stores g None = None
  stores g (Some to) = when (store_ok g to) (stored x g to)

  abbrev pub computes : FlowState → Option Place → List Place → Option Exits
  computes g None from = when (every (read_ok g) from) g
  computes g (Some to) from = if every (read_ok g) from then stores g (Some to) else None

  abbrev pub stores_as : InitMap → FlowState → Option Place → Option Exits
  stores_as c g None = None
  stores_as c g (Some to) = when (store_ok g to) (stored_as x c g to (is_exact to.steps))

  abbrev pub count_ok : FlowState → Place → Place → Bool
  count_ok g to array =
      read_ok g array && (is_exact array.steps && (store_ok g to && (is_whole_local x to.steps && (not (to.local == array.local)
      && (untied g array.local && not (is_empty (still_map x g array [])))))))

  abbrev pub compare_ok : (g : FlowState) → (to zero' n : Place) → Bool
  compare_ok g to z n =
      read_ok g z && (is_whole_local x z.steps && (is_known false (g.init z.local []) && (read_ok g n && (is_whole_local x n.steps
      && (store_ok g to && (is_whole_local x to.steps && (not (to.local == n.local) && not (to.local == z.local))))))))

  -- where what is stored tells whether an array has an element
  abbrev pub counts_to : FlowState → Option Place → List Place → Option Exits
  counts_to g None from = computes g None from
  counts_to g (Some to) [] = computes g (Some to) []
  counts_to g (Some to) (array ∷ from) =
      if count_ok g to array then Some (goes_to (counted x g to array)) else computes g (Some to) (array ∷ from)

  abbrev pub compares_to : FlowState → Option Place → List Place → Option Exits
  compares_to g None from = computes g None from
  compares_to g (Some to) [] = computes g (Some to) []
  compares_to g (Some to) (a ∷ []) = computes g (Some to) (a ∷ [])
  compares_to g (Some to) (a ∷ (b ∷ from)) =
      if compare_ok g to a b then Some (goes_to (compared x g to b)) else computes g (Some to) (a ∷ (b ∷ from))

  -- each array in the place whose elements hold arrays has no element
  abbrev pub has_array : TyId → Bool
  has_array t = not (each_array types t (λ q. false))

  abbrev pub is_nested : Form → Bool
  is_nested (Numbers t) = false
  is_nested Flags = false
  is_nested (Tuples parts) = false
  is_nested (Products d parts) = false
  is_nested (Arrays t) = has_array t
  is_nested Unknown = false

  abbrev pub no_elements : FlowState → Place → Bool
  no_elements g p =
      if_some (place_type types x.fun p) (λ t. every_leaf types (depth_of types) t (λ a q. not (is_nested a) || is_empty (still_map x g p q)))

  abbrev pub is_free : FlowState → ℕ → Bool
  is_free g to = is_own (g.status to) && (local_is g to IsUnset && (is_shut g to && (nat_lt to locals && untied g to)))

  abbrev pub lendable : FlowState → Place → Way → Bool
  lendable g p Reads = set_place g p
  lendable g p Writes = entered g p

  abbrev pub lend_ok : FlowState → ℕ → Place → Way → Bool
  lend_ok g to p w =
      is_free g to && (not (to == p.local) && (is_live g p.local && (indexes_ok g p.steps && (may_open g p.local (still p.steps) w && lendable g p w))))

  abbrev pub comes_back : FlowState → ℕ → Way → Bool → Bool
  comes_back g l Reads exact = true
  comes_back g l Writes true = true
  comes_back g l Writes false = local_is g l IsSet

  abbrev pub closed : FlowState → ℕ → Loan → FlowState
  closed g l o = let h = with_status (come_back x g l o o.way o.exact) l Own none_set in record h { open_places = without (InLocal l) h.open_places }

  abbrev pub closes : FlowState → ℕ → Status → Option Exits
  closes g l Own = None
  closes g l (Param w) = None
  closes g l (Opened o) = when (is_shut g l && (comes_back g l o.way o.exact && (untied g l && untied g o.base))) (closed g l o)
  closes g l (Bound w) = None

  abbrev pub slid : FlowState → ℕ → FlowState
  slid g l = let h = with_status g l Own none_set in record h { open_places = without (InSubscript l) h.open_places }

  abbrev pub slides : FlowState → ℕ → Status → Option Exits
  slides g l Own = None
  slides g l (Param w) = None
  slides g l (Opened o) = None
  slides g l (Bound w) = when (is_shut g l && (local_is g l IsSet && untied g l)) (slid g l)

  abbrev pub hand_ok : FlowState → Terms → ℕ → Bool
  hand_ok g terms l =
      is_open (g.status l) terms.way &&
      (is_shut g l && (untied g l && if_some (local_type x.fun l) (λ t. every_leaf types (depth_of types) t (λ a q. counts (terms.before q) (g.init l q)))))

  abbrev pub hands_ok : FlowState → Signature → ℕ → List ℕ → Bool
  hands_ok g s i [] = true
  hands_ok g s i (l ∷ ls) = hand_ok g (s.lent i) l && hands_ok g s (suc i) ls

  abbrev pub takes_ok : FlowState → List Place → Bool
  takes_ok g [] = true
  takes_ok g (p ∷ ps) = take_ok g p && takes_ok (given x g p) ps

  abbrev pub calls : FlowState → ℕ → List ℕ → List Place → Place → Option Exits
  calls g n lent owned to =
      let h = all_given x g owned in
      let s = x.signatures n in
      if takes_ok g owned && hands_ok h s 0 lent then stores (come_from x h s 0 lent) (Some to) else None

  abbrev pub projects : FlowState → ℕ → List ℕ → List Place → ℕ → Option Exits
  projects g n lent owned to =
      let h = all_given x g owned in
      let s = x.signatures n in
      when (takes_ok g owned && (hands_ok h s 0 lent && is_free h to))
      (with_status (held_by x to (come_from x h s 0 lent) s 0 lent) to (Bound s.yields) all_set)

  abbrev pub dropped : Stage → FlowState → Place → Bool
  dropped Deinitialises g p = true
  dropped GivesUp g p = set_place g p && no_elements g p

  abbrev pub copied : Stage → Place → Bool
  copied Deinitialises p = true
  copied GivesUp p = if_some (place_type types x.fun p) (λ t. each_array types t (λ q. false))

  abbrev pub left : Stage → FlowState → ℕ → Bool
  left Deinitialises g l = if_some (local_type x.fun l) (λ t. each_array types t (λ q. is_unset (g.init l q)))
  left GivesUp g l = local_is g l IsUnset

  abbrev pub is_last : FlowState → Bool
  is_last g =
      bool_eq g.yielded (is_ramp x.fun)
      && (every (λ e. false) g.open_places
      && each_local locals (λ l. if nat_lt l (length (lent_types x.fun))
      then if_some (local_type x.fun l) (λ t. every_leaf types (depth_of types) t (λ a q. counts ((x.signature.lent l).after q) (g.init l q)))
      else is_own (g.status l) && left x.stage g l))

  abbrev pub built_flow : Operator → Option Place → List Place → FlowState → Option Exits
  built_flow Push to (array ∷ (a ∷ from)) g = when (take_ok g a && change_ok (given x g a) array) (changed x (given x g a) array)
  built_flow Push to (array ∷ []) g = None
  built_flow Push to [] g = None
  built_flow Pop to (array ∷ from) g = if change_ok g array then stores (changed x g array) to else None
  built_flow Pop to [] g = None
  built_flow Swap to (array ∷ (a ∷ (b ∷ from))) g = when (read_ok g a && (read_ok g b && change_ok g array)) (changed x g array)
  built_flow Swap to (array ∷ (a ∷ [])) g = None
  built_flow Swap to (array ∷ []) g = None
  built_flow Swap to [] g = None
  built_flow FreeArray to (array ∷ from) g = when (frees x.stage && (take_ok g array && no_elements g array)) (given x g array)
  built_flow FreeArray to [] g = None
  built_flow Add to from g = computes g to from
  built_flow Sub to from g = computes g to from
  built_flow Mul to from g = computes g to from
  built_flow Div to from g = computes g to from
  built_flow Rem to from g = computes g to from
  built_flow Neg to from g = computes g to from
  built_flow (Convert t) to from g = computes g to from
  built_flow Eq to from g = computes g to from
  built_flow Lt to from g = compares_to g to from
  built_flow Le to from g = computes g to from
  built_flow Not to from g = computes g to from
  built_flow NewArray to from g = stores_as (λ q. IsEmpty) g to
  built_flow Count to from g = counts_to g to from
  built_flow Print to from g = computes g to from
  built_flow Read to from g = computes g to from
  built_flow Check to from g = computes g to from

  -- the local of a condition
  abbrev pub condition_ok : FlowState → ℕ → Bool
  condition_ok g on = is_live g on && (may_read g on [] && is_set_so (g.init on []))

  abbrev pub follows : Option FlowState → Exits → Stmts → (FlowState → Option Exits) → Option Exits
  follows None e ss go = ends ss e
  follows (Some h) e ss go = and_then (go h) (λ f. meet_exits f.next e f)

  -- A loop begins in a state to which its pass comes back. It is left in the state after its head, where its local is false, or from
  -- within.
  abbrev pub passes : FlowState → FlowState → Exits → Option Exits
  passes g e b = if flows_in b.next g && flows_in b.again g
      then and_then (meet (Some e) b.breaks) (λ out. Some (record { next = out; breaks = None; again = None })) else None

  abbrev pub loops : FlowState → ℕ → Option FlowState → (FlowState → Option Exits) → Option Exits
  loops g on None go = None
  loops g on (Some e) go = if condition_ok e on then and_then (go (where_is x e on true)) (passes g (where_is x e on false)) else None

  abbrev pub at_head : FlowState → ℕ → Exits → (FlowState → Option Exits) → Option Exits
  at_head g on h go = if is_none h.breaks && is_none h.again then loops g on h.next go else None

  abbrev pub loop_from : (head body : FlowState → Option Exits) → ℕ → FlowState → Option Exits
  loop_from head body on g = and_then (head g) (λ h. at_head g on h body)

  -- the state where a loop begins, with what both it and the state after a pass may be said to be
  abbrev pub with_end : FlowState → Option FlowState → FlowState
  with_end g None = g
  with_end g (Some d) = joined g d

  abbrev pub after_pass : (head body : FlowState → Option Exits) → ℕ → FlowState → Option FlowState
  after_pass head body on g =
      and_then (head g) (λ h. and_then h.next (λ e. and_then (body (where_is x e on true)) (λ b. Some (with_end (with_end g b.next) b.again))))

  -- a loop that begins in the state before it, or in that state with its own end
  abbrev pub or_from : Option Exits → FlowState → Option FlowState → (FlowState → Option Exits) → Option Exits
  or_from (Some e) g d go = Some e
  or_from None g None go = None
  or_from None g (Some d) go = let h : FlowState = record g { init = d.init } in if flows_into g h then go h else None

  -- no array is known to have no element where a local is false or 0
  abbrev pub without_ties : InitState → InitState
  without_ties IsSet = IsSet
  without_ties IsUnset = IsUnset
  without_ties (IsKnown b) = IsKnown b
  without_ties IsEmpty = IsEmpty
  without_ties (IsEmptyWithout l) = IsSet
  without_ties IsDoubtful = IsDoubtful
  without_ties (IsSetWith f) = IsSetWith f

  -- a statement that is not allowed as it is, where less is told
  abbrev pub tried : Option Exits → FlowState → (FlowState → Option Exits) → Option Exits
  tried (Some e) g go = Some e
  tried None g go = go (record g { init = λ l q. without_ties (g.init l q) })

  abbrev mutual
    pub flow_all : Stmts → FlowState → Option Exits
    flow_all Done g = Some (goes_to g)
    flow_all (Then s ss) g = and_then (tried (flow_one s g) g (flow_one s)) (λ e. follows e.next e ss (flow_all ss))

    pub flow_one : Stmt → FlowState → Option Exits
    flow_one (Built operator to from spans) g = built_flow operator to from g
    flow_one (Set to n) g = when (store_ok g to) (set_to x g to n)
    flow_one (Lend to place w) g = when (lend_ok g to place (way w)) (opened x g to place (way w))
    flow_one (Close l) g = closes g l (g.status l)
    flow_one (Move to from) g = if take_ok g from then stores (given x g from) (Some to) else None
    flow_one (Copy to from) g = if read_ok g from && copied x.stage from then stores g (Some to) else None
    flow_one (Drop place) g = when (give_ok g place && dropped x.stage g place) (given x g place)
    flow_one (Call n lent owned to) g = calls g n lent owned to
    flow_one (Project n lent owned to) g = projects g n lent owned to
    flow_one (Slide l) g = slides g l (g.status l)
    flow_one (Yield l) g =
        when (is_ramp x.fun && (not g.yielded && (is_open (g.status l) x.signature.yields && (is_shut g l && (local_is g l IsSet && untied g l)))))
        (record (with_init g l [] all_set) { yielded = true })
    flow_one (If on a b) g =
        if condition_ok g on then and_then (flow_all a (where_is x g on true)) (λ e. and_then (flow_all b (where_is x g on false)) (either e)) else None
    flow_one (While head on body) g =
        or_from (loop_from (flow_all head) (flow_all body) on g) g (after_pass (flow_all head) (flow_all body) on g)
        (loop_from (flow_all head) (flow_all body) on)
    flow_one Break g = Some (record { next = None; breaks = Some g; again = None })
    flow_one Continue g = Some (record { next = None; breaks = None; again = Some g })
    flow_one (Leave from) g = if take_ok g from && is_last (given x g from) then Some (record { next = None; breaks = None; again = None }) else None

  -- the body has a flow
  abbrev pub body_flows : Bool
  body_flows = is_whole_flow (flow_all x.fun.body (first x))

abbrev pub each_flows : Stage → Core → ℕ → List Fun → Bool
each_flows stage core n [] = true
each_flows stage core n (f ∷ fs) = body_flows (context_of stage core (signatures_of core) n f) && each_flows stage core (suc n) fs

-- each body of the core has a flow
abbrev pub has_flow : Stage → Core → Bool
has_flow stage core = each_flows stage core 0 core.funs
