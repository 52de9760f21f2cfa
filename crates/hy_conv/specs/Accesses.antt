-- How each expression and receiver of a body is used: whole expressions, and what methods are called on.
use Rattle.std.specs.Prelude.{ℕ, ◌==◌, ◌&&◌, ◌||◌, Bool as Truth, false, not, List, [], ◌∷◌, ◌++◌, Option, Some, None, cond, flat_map}
use Rattle.hy_base.specs.declared.position.Span.{Span}
use Rattle.hy_tree.specs.Tree as T
use Rattle.hy_signatures.specs.Signatures.{Receiver, NoReceiver, ReadReceiver, SelfReceiver, ArrayReceiver}
use Rattle.hy_check.specs.Phrases.{Phrase, AnExpr, AStep, AStmt}
use Rattle.hy_check.specs.Places.{Place, place_of, place_after}
use Rattle.hy_check.specs.Postfix.{Value, Before, Has, Name, Member, Seen, NameStep, CallStep, none}
use Rattle.hy_check.specs.Typing.{Around, valued, seen, after, begins, shown}
use Rattle.hy_check.specs.Uses as U
use Rattle.hy_check.specs.Uses.{Use, variant_of, use_in, on_place}

-- an expression or receiver: the place that it is, if it is one; how it is used; the span that a refusal gives it
pub record Access : Type 0 where
  pub place : Option Place
  pub used : Use
  pub span : Span

abbrev place_if : Option Value → Place → Option Place
place_if None place = None
place_if (Some value) place = cond value.is_place (Some place) None

-- RECEIVERS

-- what a call is called on
abbrev pub called_on : Before → Option Value
called_on (Has value) = value
called_on (Name meaning) = None
called_on (Member value name) = Some value

-- the use of what a method is called on; the place before a subscript goes on through it
abbrev method_use : Receiver → Use → Option Use
method_use SelfReceiver used = Some used
method_use NoReceiver used = None
method_use ReadReceiver used = Some U.Read
method_use ArrayReceiver used = None

abbrev receiver_used : Seen → (marked on_place : Truth) → Option Use
receiver_used (CallStep s) marked place = cond s.is_subscript None (method_use s.receiver (use_in (variant_of s marked place U.Read)))
receiver_used other marked place = None

abbrev access_if : Option Use → Option Place → Span → List Access
access_if None place span = []
access_if (Some used) place span = record { place = place; used = used; span = span } ∷ []

-- the name of a member is not yet a part of what stands before the call
abbrev span_after : Seen → T.Step → Span → Span
span_after NameStep step span = span
span_after other step span = (T.at_step step).span

-- what methods are called on along these steps, where this place stands before them
abbrev receivers_along : Around → (marked : Truth) → Before → Place → Span → T.Steps → List Access
receivers_along around marked before place span T.NoStep = []
receivers_along around marked before place span (T.ThenStep step more) =
    let this = seen around before step more in
    access_if (receiver_used this (marked && none more) (on_place before)) (place_if (called_on before) place) span
    ++ receivers_along around marked (after around marked before step more) (place_after place (T.at_step step).node this) (span_after this step span) more

abbrev receivers_in : Around → (marked : Truth) → T.Expr → List Access
receivers_in around marked (T.Postfix primary steps at) =
    receivers_along around marked (begins around primary steps) (place_of around primary) (T.at_expr primary).span steps
receivers_in around marked e = []

-- WHOLE EXPRESSIONS

-- the node of what a postfix expression begins with, and of what stands after `&`: they are no expressions by themselves
abbrev inner_node : T.Expr → List ℕ
inner_node (T.Postfix primary steps at) = (T.at_expr primary).node ∷ []
inner_node (T.Marked operand at) = (T.at_expr operand).node ∷ []
inner_node e = []

abbrev inner_nodes : Phrase → List ℕ
inner_nodes (AnExpr around used marked e) = inner_node e
inner_nodes (AStep around used marked before step more span) = []
inner_nodes (AStmt around body stmt) = []

abbrev pub contains : ℕ → List ℕ → Truth
contains node [] = false
contains node (one ∷ more) = (one == node) || contains node more

abbrev pub is_whole : List Phrase → T.Expr → Truth
is_whole all e = not (contains (T.at_expr e).node (flat_map inner_nodes all))

abbrev pub access_of : Around → Use → T.Expr → Access
access_of around used e = record { place = place_if (valued around false e) (place_of around e); used = used; span = shown around e }

abbrev accesses_at : List Phrase → Phrase → List Access
accesses_at all (AnExpr around used marked e) = cond (is_whole all e) (access_of around used e ∷ []) [] ++ receivers_in around marked e
accesses_at all (AStep around used marked before step more span) = []
accesses_at all (AStmt around body stmt) = []

-- all of them, in a body with these phrases
abbrev pub accesses : List Phrase → List Access
accesses all = flat_map (accesses_at all) all
