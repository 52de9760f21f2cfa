-- How each expression is used, and which variant of a method or subscript a use picks.
use Rattle.std.specs.Prelude.{ℕ, zero, suc, ◌&&◌, ◌||◌, Bool as Truth, true, false, List, [], ◌∷◌, ◌++◌, Option, Some, None, cond, map}
use Rattle.std.specs.Prelude.{option_map, option_and_then, unwrap_or}
use Rattle.hy_tree.specs.Tree as T
use Rattle.hy_tree.specs.declared.operator.Mode.{Mode}
use Rattle.hy_tree.specs.declared.operator.Mode.TheVariants as mode
use Rattle.hy_types.specs.Types.{PlainType}
use Rattle.hy_signatures.specs.PlainTypes.{Found, unit}
use Rattle.hy_signatures.specs.Signatures.{Signature, solved, Callee, Convention, Reads, By, Parameter, Receiver, NoReceiver, ReadReceiver}
use Rattle.hy_signatures.specs.Signatures.{SelfReceiver, ArrayReceiver}
use Rattle.hy_check.specs.Postfix.{Before, Has, Name, Member, none, Seen, FieldStep, PartStep, NameStep, CallStep, NoSuchStep, UnknownStep}
use Rattle.hy_check.specs.Typing.{Around, seen, after}

pub data Use : Type 0 where
  -- its value is looked at
  Read : Use
  -- it is lent unchanged, lent for change, lent to be initialised, or moved
  Let : Use
  Inout : Use
  Set : Use
  Sink : Use
  -- it is the target of `=`, or of a compound assignment
  Assigned : Use
  Compound : Use

-- VARIANTS

abbrev pub same_mode : Mode → Mode → Truth
same_mode mode.Let mode.Let = true
same_mode mode.Inout mode.Inout = true
same_mode mode.Sink mode.Sink = true
same_mode mode.Set mode.Set = true
same_mode mode.Yielded mode.Yielded = true
same_mode a b = false

abbrev pub has : Mode → List Mode → Truth
has wanted [] = false
has wanted (one ∷ more) = same_mode wanted one || has wanted more

-- A method: `&` picks `inout`. Without it, a place picks `let` where it is declared, else `sink`, and an owned result picks `sink`
-- where it is declared, else `let`. What is picked need not be declared.
abbrev pub method_variant : (marked on_place : Truth) → List Mode → Mode
method_variant true on_place variants = mode.Inout
method_variant false true variants = cond (has mode.Let variants) mode.Let mode.Sink
method_variant false false variants = cond (has mode.Sink variants) mode.Sink mode.Let

-- A subscript, by its use. What is picked need not be declared.
abbrev pub subscript_variant : Use → List Mode → Mode
subscript_variant Read variants = mode.Let
subscript_variant Let variants = mode.Let
subscript_variant Inout variants = mode.Inout
subscript_variant Set variants = mode.Inout
subscript_variant Compound variants = mode.Inout
subscript_variant Assigned variants = cond (has mode.Set variants) mode.Set mode.Inout
subscript_variant Sink variants = mode.Sink

-- a place whose part is used so is itself used so: for change or not
abbrev pub of_whole : Use → Use
of_whole Read = Let
of_whole Let = Let
of_whole Sink = Let
of_whole Inout = Inout
of_whole Set = Inout
of_whole Assigned = Inout
of_whole Compound = Inout

-- USES BY CONVENTIONS

abbrev pub use_by : Mode → Use
use_by mode.Let = Let
use_by mode.Inout = Inout
use_by mode.Sink = Sink
use_by mode.Set = Set
use_by mode.Yielded = Let

-- `self` and what is `yielded` take the convention of the variant; under `set` they are lent for change
abbrev pub use_in : Mode → Use
use_in mode.Let = Let
use_in mode.Inout = Inout
use_in mode.Sink = Sink
use_in mode.Set = Inout
use_in mode.Yielded = Let

abbrev pub argument_use_by : Mode → Mode → Use
argument_use_by variant mode.Yielded = use_in variant
argument_use_by variant convention = use_by convention

abbrev pub argument_use : Mode → Convention → Use
argument_use variant Reads = Read
argument_use variant (By convention) = argument_use_by variant convention

-- SIGNATURES OF CALLS

-- a call: what is called, with which type arguments, by which variant, how what it is called on is used, and how each argument is
pub record Sig : Type 0 where
  pub callee : Callee
  pub type_arguments : List PlainType
  pub variant : Mode
  pub receiver : Option Use
  pub arguments : List Use

abbrev pub receiver_use : Receiver → Mode → Use → Option Use
receiver_use NoReceiver variant used = None
receiver_use ReadReceiver variant used = Some Read
receiver_use SelfReceiver variant used = Some (use_in variant)
receiver_use ArrayReceiver variant used = Some (of_whole used)

-- whether a call is of a place
abbrev pub on_place : Before → Truth
on_place (Has None) = false
on_place (Has (Some value)) = value.is_place
on_place (Name meaning) = false
on_place (Member value name) = value.is_place

-- what is no member has the variant `let` alone
abbrev pub member_variant : Receiver → (marked on_place : Truth) → List Mode → Mode
member_variant SelfReceiver marked place variants = method_variant marked place variants
member_variant NoReceiver marked place variants = mode.Let
member_variant ReadReceiver marked place variants = mode.Let
member_variant ArrayReceiver marked place variants = mode.Let

-- The variant that a use picks: a subscript picks by how what it gives is used, a method by the mark and by what it is called on.
abbrev pub variant_of : Signature → (marked on_place : Truth) → Use → Mode
variant_of s marked place used = cond s.is_subscript (subscript_variant used s.variants) (member_variant s.receiver marked place s.variants)

abbrev pub argument_uses : Signature → Mode → List Use
argument_uses s variant = map (λ (p : Parameter). argument_use variant p.convention) s.params

-- what was found for the first so many type parameters
abbrev pub found_first : ℕ → Found → List PlainType
found_first zero found = []
found_first (suc count) found = found_first count found ++ unwrap_or (found count) unit ∷ []

abbrev pub type_arguments : Signature → Option (List PlainType) → List PlainType
type_arguments s given = unwrap_or (option_map (found_first s.generics) (option_and_then (λ types. solved s.params types s.known) given)) []

-- a call with arguments of these types, where what it gives is used so
abbrev pub sig_of : Signature → Option (List PlainType) → (marked on_place : Truth) → Use → Sig
sig_of s given marked place used = record {
  callee = s.callee;
  type_arguments = type_arguments s given;
  variant = variant_of s marked place used;
  receiver = receiver_use s.receiver (variant_of s marked place used) used;
  arguments = argument_uses s (variant_of s marked place used);
}

-- USES INSIDE A POSTFIX EXPRESSION

abbrev pub or_read : Option Use → Use
or_read (Some used) = used
or_read None = Read

-- how what stands before a step is used, where what the step gives is used so
abbrev pub before_used : Seen → (marked on_place : Truth) → Use → Use
before_used (FieldStep field type) marked place used = of_whole used
before_used (PartStep number type) marked place used = of_whole used
before_used NameStep marked place used = used
before_used (CallStep s) marked place used = or_read (receiver_use s.receiver (variant_of s marked place used) used)
before_used NoSuchStep marked place used = Read
before_used UnknownStep marked place used = Read

-- how what stands before these steps is used, where the whole is used so
abbrev pub used_before : Around → (marked : Truth) → Before → T.Steps → Use → Use
used_before around marked before T.NoStep used = used
used_before around marked before (T.ThenStep step more) used =
    before_used (seen around before step more) (marked && none more) (on_place before)
    (used_before around marked (after around marked before step more) more used)
