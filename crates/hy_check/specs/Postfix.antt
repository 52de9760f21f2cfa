-- Postfix expressions, step by step, once names and types are known: what stands before a step, what the step is, and what stands
-- after it. All passes that look at places and calls use this view.
use Rattle.std.specs.Prelude.{ℕ, Bool as Truth, true, false, List, [], Option, Some, None, cond, codes, ℤ, pos, option_map, option_and_then}
use Rattle.std.specs.Str.{bytes_eq}
use Rattle.hy_tree.specs.Tree as T
use Rattle.hy_tree.specs.Names.{labels_of_args}
use Rattle.hy_tree.specs.declared.declaration.TypeParam.{TypeParam}
use Rattle.hy_tree.specs.declared.meant.Meant.{Meant}
use Rattle.hy_tree.specs.declared.meant.Meant.TheVariants as meant
use Rattle.hy_tree.specs.declared.predeclared.TheConstants.{COUNT}
use Rattle.hy_types.specs.Types as Y
use Rattle.hy_signatures.specs.PlainTypes.{part_at}
use Rattle.hy_types.specs.Types.{PlainType}
use Rattle.hy_signatures.specs.Declarations.{Source, Field, fields_of, field_named}
use Rattle.hy_signatures.specs.Signatures.{Signature, ReadReceiver, function_named, subscript_named, method_named, subscript_of, indexed}
use Rattle.hy_signatures.specs.Signatures.{called_type, predeclared, Predeclared}

-- a value: its type, and whether it is a place or an owned result
pub record Value : Type 0 where
  pub type : PlainType
  pub is_place : Truth

abbrev pub place : PlainType → Value
place type = record { type = type; is_place = true }

abbrev pub owned : PlainType → Value
owned type = record { type = type; is_place = false }

-- WHAT STANDS BEFORE A STEP

pub data Before : Type 0 where
  -- a value, where that before has a type
  Has : Option Value → Before
  -- a name in front of its arguments
  Name : Meant → Before
  -- a member name in front of its arguments, with the value before it
  Member : Value → List ℕ → Before

-- the value of what stands after the last step
abbrev pub value_of : Before → Option Value
value_of (Has value) = value
value_of (Name meaning) = None
value_of (Member value name) = None

abbrev pub is_application : T.Step → Truth
is_application (T.CallStep args at) = true
is_application (T.IndexStep args at) = true
is_application (T.MemberStep name at) = false
is_application (T.PartStep number at) = false

-- whether arguments stand first among these steps
abbrev pub has_arguments : T.Steps → Truth
has_arguments T.NoStep = false
has_arguments (T.ThenStep step more) = is_application step

-- whether these are all steps
abbrev pub none : T.Steps → Truth
none T.NoStep = true
none (T.ThenStep step more) = false

-- A name in front of arguments is called, unless it stands for a variable or a field: these are values.
abbrev pub named : Meant → Option Value → Before
named (meant.Local node) value = Has value
named (meant.SelfField node) value = Has value
named meaning value = Name meaning

-- what stands before the first step
abbrev pub before_first : Source → T.Expr → T.Steps → Option Value → Before
before_first source (T.Named name at) steps value = cond (has_arguments steps) (named (source.meant at.node) value) (Has value)
before_first source primary steps value = Has value

-- WHAT A STEP IS

-- a field, by the node of its member; a part of a tuple, by its place; or a call. An element of an array is seen as a call here.
pub data Seen : Type 0 where
  FieldStep : (field : ℕ) → PlainType → Seen
  PartStep : (number : ℕ) → PlainType → Seen
  -- the name of a member that is called: its arguments follow
  NameStep : Seen
  CallStep : Signature → Seen
  -- there is no such member, or this cannot be called
  NoSuchStep : Seen
  -- that before has no type
  UnknownStep : Seen

abbrev pub count_of : PlainType → Seen
count_of (Y.Array element) = CallStep (predeclared (Predeclared COUNT) ReadReceiver [] Y.Int)
count_of type = NoSuchStep

-- A member name is a field, where the type has one. Else it is the name of the call whose arguments follow, or the count of an
-- array.
abbrev pub seen_member : Option Field → PlainType → List ℕ → Truth → Seen
seen_member (Some field) type name followed = FieldStep field.node field.type
seen_member None type name true = NameStep
seen_member None type name false = cond (bytes_eq name (codes "count")) (count_of type) NoSuchStep

abbrev pub seen_part : PlainType → ℤ → Seen
seen_part (Y.Tuple parts) (pos number) = part_or (part_at number parts) number
  where
    part_or : Option PlainType → ℕ → Seen
    part_or (Some type) number = PartStep number type
    part_or None number = NoSuchStep
seen_part type number = NoSuchStep

abbrev pub seen_call : Option Signature → Seen
seen_call (Some signature) = CallStep signature
seen_call None = NoSuchStep

-- what the arguments in parentheses with these labels call
abbrev pub seen_parentheses : Source → List TypeParam → Before → List (Option (List ℕ)) → Seen
seen_parentheses source generics (Has None) labels = UnknownStep
seen_parentheses source generics (Has (Some value)) labels = NoSuchStep
seen_parentheses source generics (Name meaning) labels = seen_call (function_named source meaning labels)
seen_parentheses source generics (Member value name) labels = seen_call (method_named source generics value.type name labels)

-- what the arguments in brackets with these labels call
abbrev pub seen_brackets : Source → Before → List (Option (List ℕ)) → Seen
seen_brackets source (Has None) labels = UnknownStep
seen_brackets source (Has (Some value)) labels = seen_call (indexed source value.type labels)
seen_brackets source (Name meaning) labels = seen_call (subscript_named source meaning)
seen_brackets source (Member value name) labels = seen_call (subscript_of source value.type name labels)

abbrev pub seen_member_of : Source → Option Value → List ℕ → Truth → Seen
seen_member_of source None name followed = UnknownStep
seen_member_of source (Some value) name followed = seen_member (field_named name (fields_of source value.type)) value.type name followed

abbrev pub seen_part_of : Option Value → ℤ → Seen
seen_part_of None number = UnknownStep
seen_part_of (Some value) number = seen_part value.type number

-- what a step is, in front of these steps
abbrev pub seen_step : Source → List TypeParam → Before → T.Step → T.Steps → Seen
seen_step source generics before (T.MemberStep name at) more = seen_member_of source (value_of before) name.text (has_arguments more)
seen_step source generics before (T.PartStep number at) more = seen_part_of (value_of before) number
seen_step source generics before (T.CallStep args at) more = seen_parentheses source generics before (labels_of_args args)
seen_step source generics before (T.IndexStep args at) more = seen_brackets source before (labels_of_args args)

-- WHAT STANDS BEHIND A STEP

abbrev pub member_asked : Option Value → List ℕ → Before
member_asked (Some value) name = Member value name
member_asked None name = Has None

abbrev pub after_name : Before → T.Step → Before
after_name before (T.MemberStep name at) = member_asked (value_of before) name.text
after_name before step = Has None

-- a subscript gives a place, and any other call an owned result
abbrev pub given_by : Signature → PlainType → Value
given_by signature type = record { type = type; is_place = signature.is_subscript }

-- Fields, parts and what is called, with the types of the arguments, where all of them have one; `marked` says that `&` stands
-- before the postfix expression that this call ends.
abbrev pub after_step : Source → List TypeParam → (marked : Truth) → Before → T.Step → Seen → Option (List PlainType) → Before
after_step source generics marked before step (FieldStep field type) given = Has (Some (place type))
after_step source generics marked before step (PartStep number type) given = Has (Some (place type))
after_step source generics marked before step NameStep given = after_name before step
after_step source generics marked before step (CallStep signature) given =
    Has (option_map (given_by signature) (option_and_then (called_type source generics marked signature) given))
after_step source generics marked before step NoSuchStep given = Has None
after_step source generics marked before step UnknownStep given = Has None
