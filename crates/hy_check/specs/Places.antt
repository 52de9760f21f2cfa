-- The place that an expression is: what it begins with, and the steps from there.
use Rattle.std.specs.Prelude.{ℕ, Bool, false, List, [], ◌∷◌, ◌++◌, cond}
use Rattle.hy_base.specs.declared.position.Span.{Span}
use Rattle.hy_tree.specs.Tree as T
use Rattle.hy_tree.specs.declared.meant.Meant.{Meant}
use Rattle.hy_tree.specs.declared.meant.Meant.TheVariants as meant
use Rattle.hy_check.specs.Postfix.{Before, Seen, FieldStep, PartStep, NameStep, CallStep, NoSuchStep, UnknownStep}
use Rattle.hy_signatures.specs.Signatures.{Signature, Receiver, NoReceiver, ReadReceiver, SelfReceiver, ArrayReceiver}
use Rattle.hy_check.specs.Typing.{Around, seen, after, begins}

pub data Root : Type 0 where
  -- a variable, parameter, bound projection or new value, by the node that declares it
  Variable : (node : ℕ) → Root
  -- `self`, which no node declares
  Itself : Root
  -- what a subscript of the file yields, by the node of the step that calls it
  Yielded : (step : ℕ) → Root
  -- an owned result
  Temporary : Root

pub data PlaceStep : Type 0 where
  FieldOf : (field : ℕ) → PlaceStep
  PartOf : (number : ℕ) → PlaceStep
  -- an element of an array, by the node of the step that has the index
  ElementOf : (step : ℕ) → PlaceStep
  -- what a subscript yields of the place before it, by the node of the step that calls it
  YieldedBy : (step : ℕ) → PlaceStep

pub record Place : Type 0 where
  pub root : Root
  pub steps : List PlaceStep

abbrev pub at_root : Root → Place
at_root root = record { root = root; steps = [] }

abbrev pub further : Place → PlaceStep → Place
further place step = record place { steps = place.steps ++ step ∷ [] }

-- a field of `self` may be named alone
abbrev pub named_place : Meant → Place
named_place (meant.Local node) = at_root (Variable node)
named_place (meant.SelfField field) = further (at_root Itself) (FieldOf field)
named_place other = at_root Temporary

-- What is called gives an owned result, unless it is a subscript. An element of an array is seen as a subscript here.
abbrev pub subscript_place : Receiver → Place → ℕ → Place
subscript_place ArrayReceiver place node = further place (ElementOf node)
subscript_place SelfReceiver place node = further place (YieldedBy node)
subscript_place ReadReceiver place node = further place (YieldedBy node)
subscript_place NoReceiver place node = at_root (Yielded node)

abbrev pub place_called : Place → ℕ → Signature → Place
place_called place node s = cond s.is_subscript (subscript_place s.receiver place node) (at_root Temporary)

abbrev pub place_after : Place → ℕ → Seen → Place
place_after place node (FieldStep field type) = further place (FieldOf field)
place_after place node (PartStep number type) = further place (PartOf number)
place_after place node NameStep = place
place_after place node (CallStep s) = place_called place node s
place_after place node NoSuchStep = at_root Temporary
place_after place node UnknownStep = at_root Temporary

abbrev pub place_along : Around → (marked : Bool) → Before → Place → T.Steps → Place
place_along around marked before place T.NoStep = place
place_along around marked before place (T.ThenStep step more) =
    place_along around marked (after around marked before step more) (place_after place (T.at_step step).node (seen around before step more)) more

-- the place that an expression is; an owned result is a temporary
abbrev pub place_of : Around → T.Expr → Place
place_of around (T.Named name at) = named_place (around.source.meant at.node)
place_of around (T.SelfValue token at) = at_root Itself
place_of around (T.Marked operand at) = place_of around operand
place_of around (T.Postfix primary steps at) = place_along around false (begins around primary steps) (place_of around primary) steps
place_of around other = at_root Temporary

-- A call traps at its own step, without parentheses around it. An index traps at its own expression, with them.
abbrev pub trap_span : T.Step → Span
trap_span step = (T.at_step step).span
