-- Where the rules C1 to C4 are broken.
use Rattle.std.specs.Prelude.{ℕ, ◌&&◌, Bool as Truth, true, false, not, List, [], ◌∷◌, ◌++◌, Option, Some, None, cond, flat_map}
use Rattle.hy_base.specs.First.{Refusal}
use Rattle.hy_base.specs.declared.position.Span.{Span}
use Rattle.hy_base.specs.declared.refusal.Rule.TheVariants.{C1, C2, C3, C4}
use Rattle.hy_tree.specs.Tree as T
use Rattle.hy_tree.specs.Findings.{meanings}
use Rattle.hy_tree.specs.declared.operator.Mode.{Mode}
use Rattle.hy_tree.specs.declared.operator.Mode.TheVariants as mode
use Rattle.hy_signatures.specs.Declarations.{Source, source_of}
use Rattle.hy_signatures.specs.Signatures.{Callee, Element, Receiver, NoReceiver, ReadReceiver, SelfReceiver, ArrayReceiver}
use Rattle.hy_check.specs.Phrases.{Phrase, AnExpr, AStep, AStmt}
use Rattle.hy_check.specs.Places.{Place}
use Rattle.hy_check.specs.Postfix.{Before, Seen, CallStep, none}
use Rattle.hy_check.specs.Refusals.{refusal, when}
use Rattle.hy_check.specs.Typing.{Around, seen, after, begins, shown}
use Rattle.hy_check.specs.Uses as U
use Rattle.hy_check.specs.Uses.{Use, has, variant_of, on_place}
use Rattle.hy_conv.specs.Accesses.{Access, accesses, contains, is_whole}
use Rattle.hy_conv.specs.Bodies.{Body, bodies, phrases_of, may_change}

-- C1: A PLACE IS CHANGED THAT IS ONLY LENT, OR BOUND BY `let`
-- C4: WHAT IS CHANGED IS NO PLACE

-- lent for change, to be initialised, or a target
abbrev is_change : Use → Truth
is_change U.Read = false
is_change U.Let = false
is_change U.Inout = true
is_change U.Set = true
is_change U.Sink = false
is_change U.Assigned = true
is_change U.Compound = true

abbrev unchangeable : Body → Option Place → Span → List Refusal
unchangeable b None span = refusal C4 span ∷ []
unchangeable b (Some place) span = when (not (may_change b place.root)) C1 span

abbrev bad_access : Body → Access → List Refusal
bad_access b a = cond (is_change a.used) (unchangeable b a.place a.span) []

-- C2: `&` IS MISSING, OR STANDS WHERE NONE IS WANTED

abbrev only_inout : List Mode → Truth
only_inout (mode.Inout ∷ []) = true
only_inout variants = false

-- Whether `&` stands or is missing before a call of a method; of others this says nothing. It stands where none is wanted
-- exactly where there is no `inout` variant, and is missing exactly where there is that variant alone.
abbrev bad_method_mark : (marked : Truth) → List Mode → Truth
bad_method_mark true variants = not (has mode.Inout variants)
bad_method_mark false variants = only_inout variants

-- the variants of the method that a step calls
abbrev method_of : Receiver → List Mode → Option (List Mode)
method_of NoReceiver variants = None
method_of ReadReceiver variants = Some variants
method_of SelfReceiver variants = Some variants
method_of ArrayReceiver variants = None

abbrev called_method : Seen → Option (List Mode)
called_method (CallStep s) = cond s.is_subscript None (method_of s.receiver s.variants)
called_method other = None

-- the count of an array is a member, and no call of a method
abbrev method_called : Seen → T.Step → Option (List Mode)
method_called this (T.CallStep args at) = called_method this
method_called this other = None

-- the method that the last of these steps calls
abbrev last_method : Around → Before → T.Steps → Option (List Mode)
last_method around before T.NoStep = None
last_method around before (T.ThenStep step T.NoStep) = method_called (seen around before step T.NoStep) step
last_method around before (T.ThenStep step (T.ThenStep next more)) =
    last_method around (after around false before step (T.ThenStep next more)) (T.ThenStep next more)

abbrev pub method_in : Around → T.Expr → Option (List Mode)
method_in around (T.Postfix primary steps at) = last_method around (begins around primary steps) steps
method_in around e = None

-- A mark is wanted for what is lent for change or to be initialised, and may stand before a target.
abbrev bad_place_mark : (marked : Truth) → Use → Truth
bad_place_mark true U.Read = true
bad_place_mark true U.Let = true
bad_place_mark true U.Sink = true
bad_place_mark true used = false
bad_place_mark false U.Inout = true
bad_place_mark false U.Set = true
bad_place_mark false used = false

abbrev bad_mark : Option (List Mode) → (marked : Truth) → Use → Truth
bad_mark None marked used = bad_place_mark marked used
bad_mark (Some variants) marked used = bad_method_mark marked variants

abbrev mark_of : Around → Use → T.Expr → Truth
mark_of around used (T.Marked operand at) = bad_mark (method_in around operand) true used
mark_of around used e = bad_mark (method_in around e) false used

-- the values of `yield`: rule Y5 alone speaks of their marks
abbrev yielded_nodes : Phrase → List ℕ
yielded_nodes (AStmt around body (T.Yield token value at)) = (T.at_expr value).node ∷ []
yielded_nodes phrase = []

abbrev is_marked_badly : List Phrase → Around → Use → T.Expr → Truth
is_marked_badly all around used e = is_whole all e && (not (contains (T.at_expr e).node (flat_map yielded_nodes all)) && mark_of around used e)

-- a method that is called before further steps has no mark
abbrev missing_mark : Option (List Mode) → Truth
missing_mark None = false
missing_mark (Some variants) = bad_method_mark false variants

abbrev c2 : List Phrase → Phrase → List Refusal
c2 all (AnExpr around used marked e) = when (is_marked_badly all around used e) C2 (shown around e)
c2 all (AStep around used marked before step more span) =
    when (not (none more) && missing_mark (method_called (seen around before step more) step)) C2 span
c2 all (AStmt around body stmt) = []

-- C3: THE SUBSCRIPT HAS NO VARIANT FOR THIS USE

abbrev is_element : Callee → Truth
is_element Element = true
is_element callee = false

abbrev lacks_variant : Seen → (marked place : Truth) → Use → Truth
lacks_variant (CallStep s) marked place used = (s.is_subscript && not (is_element s.callee)) && not (has (variant_of s marked place used) s.variants)
lacks_variant other marked place used = false

abbrev c3 : Phrase → List Refusal
c3 (AnExpr around used marked e) = []
c3 (AStep around used marked before step more span) = when (lacks_variant (seen around before step more) marked (on_place before) used) C3 span
c3 (AStmt around body stmt) = []

-- ALL OF THEM

abbrev in_phrases : Body → List Phrase → List Refusal
in_phrases b all = flat_map (bad_access b) (accesses all) ++ (flat_map (c2 all) all ++ flat_map c3 all)

abbrev in_body : Source → Body → List Refusal
in_body source b = in_phrases b (phrases_of source b)

abbrev pub refusals_in : Source → List Refusal
refusals_in source = flat_map (in_body source) (bodies source)

-- all refusals of a program
abbrev pub refusals : T.Program → List Refusal
refusals p = refusals_in (source_of (meanings p) p)
