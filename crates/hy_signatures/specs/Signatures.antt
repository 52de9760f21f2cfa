-- What is called: the declaration, requirement or predeclared call with its parameters, before its arguments are looked at.
use Rattle.std.specs.Prelude.{ℕ, suc, zero, ◌==◌, ◌&&◌, ◌||◌, Bool as Truth, true, false, not, List, [], ◌∷◌, length, Option, Some, None}
use Rattle.std.specs.Prelude.{cond, codes, map, option_map, option_and_then}
use Rattle.std.specs.Str.{bytes_eq}
use Rattle.hy_tree.specs.Tree as T
use Rattle.hy_tree.specs.Names.{full_name}
use Rattle.hy_tree.specs.Parts.{is_bundle}
use Rattle.hy_tree.specs.declared.declaration.CallableKind.{CallableKind}
use Rattle.hy_tree.specs.declared.declaration.CallableKind.TheVariants as kind
use Rattle.hy_tree.specs.declared.declaration.TypeParam.{TypeParam}
use Rattle.hy_tree.specs.declared.meant.Meant.{Meant}
use Rattle.hy_tree.specs.declared.meant.Meant.TheVariants as meant
use Rattle.hy_tree.specs.declared.operator.Mode.{Mode}
use Rattle.hy_tree.specs.declared.operator.Mode.TheVariants as mode
use Rattle.hy_tree.specs.declared.predeclared.TheConstants.{PRINT, READ, PRECONDITION, APPEND, REMOVE_LAST, SWAP_AT, COPY}
use Rattle.hy_types.specs.Types as Y
use Rattle.hy_signatures.specs.PlainTypes.{Found, nothing_found, with_found, matched, mentions, replaced, is_integer, is_signed, is_bool, unit}
use Rattle.hy_types.specs.Types.{PlainType}
use Rattle.hy_signatures.specs.Declarations.{Source, written_type, result_type, built_type, callable_at, members_of, Field, fields_of, names_of}
use Rattle.hy_signatures.specs.Declarations.{callable_named, requirement_named, bounds_at, is_copyable}

-- WHAT A PLACE IN THE TREE WANTS

-- the types that are wanted of an expression
pub data Wanted : Type 0 where
  Exactly : PlainType → Wanted
  AnInteger : Wanted
  ASigned : Wanted
  AnIntegerOrBool : Wanted

-- What is found for type parameters where the given type is wanted; nothing where it is not. Only a wanted type may speak of
-- parameters for which types are to be found.
abbrev pub found_if : Truth → Found → Option Found
found_if true found = Some found
found_if false found = None

abbrev pub fitted : Wanted → PlainType → Found → Option Found
fitted (Exactly type) given found = matched type given found
fitted AnInteger given found = found_if (is_integer given) found
fitted ASigned given found = found_if (is_signed given) found
fitted AnIntegerOrBool given found = found_if (is_integer given || is_bool given) found

abbrev pub is_found : Option Found → Truth
is_found (Some found) = true
is_found None = false

-- CONVENTIONS

-- how a call takes an argument: it only reads it, or by a convention
pub data Convention : Type 0 where
  Reads : Convention
  By : Mode → Convention

pub record Parameter : Type 0 where
  pub wanted : Wanted
  pub convention : Convention

abbrev pub parameter : Wanted → Convention → Parameter
parameter wanted convention = record { wanted = wanted; convention = convention }

-- what a call is called on: nothing; a value that is only read; `self`; or the array that has the element
pub data Receiver : Type 0 where
  NoReceiver : Receiver
  ReadReceiver : Receiver
  SelfReceiver : Receiver
  ArrayReceiver : Receiver

-- WHAT IS CALLED

pub data Callee : Type 0 where
  -- a function, method or subscript, by the node of its declaration
  Declared : (node : ℕ) → Callee
  -- what a trait requires of the type parameter at this place
  Required : (requirement : ℕ) → (place : ℕ) → Callee
  -- a predeclared function or member, by its number
  Predeclared : (number : ℕ) → Callee
  -- `P(x: .., y: ..)`, by the node of the product
  Initialiser : (product : ℕ) → Callee
  -- `K(e)`, which gives an integer as a value of another integer type
  Conversion : (to : PlainType) → Callee
  -- `a[i]` of an array, which is no call
  Element : Callee

pub record Signature : Type 0 where
  pub callee : Callee
  -- how many type parameters it has, and what is known of them beforehand
  pub generics : ℕ
  pub known : Found
  pub receiver : Receiver
  -- the variants that are declared
  pub variants : List Mode
  pub params : List Parameter
  pub result : PlainType
  -- whether it gives a place: subscripts do
  pub is_subscript : Truth
  -- whether its `inout` variant returns nothing: that of a method bundle does
  pub is_bundle : Truth

abbrev pub is_subscript_kind : CallableKind → Truth
is_subscript_kind kind.Subscript = true
is_subscript_kind kind.Function = false
is_subscript_kind kind.Deinit = false
is_subscript_kind kind.Requirement = false

abbrev pub parameters_of : Source → List T.Param → List Parameter
parameters_of source params = map (λ (p : T.Param). parameter (Exactly (written_type source p.written)) (By p.mode)) params

-- the variants that are declared
abbrev pub modes_of : List T.Variant → List Mode
modes_of variants = map (λ (v : T.Variant). v.mode) variants

abbrev pub declared : Source → Receiver → T.Callable → Signature
declared source receiver c = record {
  callee = Declared c.at.node;
  generics = length c.generics;
  known = nothing_found;
  receiver = receiver;
  variants = modes_of c.variants;
  params = parameters_of source c.params;
  result = result_type source c.result;
  is_subscript = is_subscript_kind c.kind;
  is_bundle = is_bundle c && not (is_subscript_kind c.kind);
}

abbrev pub function_of : Source → T.Callable → Signature
function_of source c = declared source NoReceiver c

abbrev pub member_of : Source → T.Callable → Signature
member_of source c = declared source SelfReceiver c

-- a call of what the language declares
abbrev pub predeclared : Callee → Receiver → List Parameter → PlainType → Signature
predeclared callee receiver params result =
    record {
      callee =
          callee;
      generics = 0;
      known = nothing_found;
      receiver = receiver;
      variants = mode.Let
          ∷ [];
      params = params;
      result = result;
      is_subscript = false;
      is_bundle = false;
    }

-- the convention of a requirement
abbrev pub effect_of : Option Mode → Mode
effect_of None = mode.Let
effect_of (Some effect) = effect

-- a requirement, where `Self` is the type that it is called on
abbrev pub required : Source → PlainType → ℕ → T.Callable → Signature
required source type place c =
    record (declared source SelfReceiver c) {
      callee =
          Required c.at.node place;
      generics = 0;
      known = with_found 0 type nothing_found;
      variants = effect_of c.effect ∷ [];
    }

-- FUNCTIONS, INITIALISERS AND CONVERSIONS

abbrev pub one_unlabelled : List (Option (List ℕ)) → Truth
one_unlabelled (None ∷ []) = true
one_unlabelled labels = false

abbrev pub same_label : Option (List ℕ) → Option (List ℕ) → Truth
same_label (Some a) (Some b) = bytes_eq a b
same_label None None = true
same_label a b = false

abbrev pub same_labels : List (Option (List ℕ)) → List (Option (List ℕ)) → Truth
same_labels [] [] = true
same_labels (a ∷ first) (b ∷ second) = same_label a b && same_labels first second
same_labels first second = false

abbrev pub when : {A : Type 0} → Truth → A → Option A
when true a = Some a
when false a = None

abbrev pub initialiser : ℕ → List Field → Signature
initialiser node fields =
    predeclared (Initialiser node) NoReceiver (map (λ (field : Field). parameter (Exactly field.type) (By mode.Sink)) fields) (Y.Product node)

abbrev pub conversion : Option PlainType → Option Signature
conversion (Some type) = when (is_integer type) (predeclared (Conversion type) NoReceiver (parameter AnInteger Reads ∷ []) type)
conversion None = None

-- a predeclared function, whose labels are right, or a conversion
abbrev pub predeclared_function : ℕ → List (Option (List ℕ)) → Option Signature
predeclared_function number labels =
    cond (number == PRINT) (Some (predeclared (Predeclared PRINT) NoReceiver (parameter AnIntegerOrBool Reads ∷ []) unit))
    (cond (number == READ) (Some (predeclared (Predeclared READ) NoReceiver [] Y.Int))
    (cond (number == PRECONDITION) (Some (predeclared (Predeclared PRECONDITION) NoReceiver (parameter (Exactly Y.Bool) Reads ∷ []) unit))
    (cond (one_unlabelled labels) (conversion (built_type number)) None)))

-- what a name in front of `(..)` with these labels calls
abbrev pub function_named : Source → Meant → List (Option (List ℕ)) → Option Signature
function_named source (meant.Fun node) labels = option_map (function_of source) (callable_at node source.decls)
function_named source (meant.Product node) labels =
    when (same_labels labels (names_of (fields_of source (Y.Product node)))) (initialiser node (fields_of source (Y.Product node)))
function_named source (meant.Built number) labels = predeclared_function number labels
function_named source other labels = None

-- what a name in front of `[..]` calls
abbrev pub subscript_named : Source → Meant → Option Signature
subscript_named source (meant.Sub node) = option_map (function_of source) (callable_at node source.decls)
subscript_named source other = None

-- MEMBERS

-- a predeclared member that changes the array
abbrev pub changing : ℕ → List Parameter → PlainType → Signature
changing number params result = record (predeclared (Predeclared number) SelfReceiver params result) { variants = mode.Inout ∷ [] }

abbrev pub an_index : Parameter
an_index = parameter (Exactly Y.Int) (By mode.Let)

-- a member of an array of such elements that is called
abbrev pub array_member : PlainType → List ℕ → Option Signature
array_member element name =
    cond (bytes_eq name (codes "append(_:)")) (Some (changing APPEND (parameter (Exactly element) (By mode.Sink) ∷ []) unit))
    (cond (bytes_eq name (codes "remove_last()")) (Some (changing REMOVE_LAST [] element))
    (cond (bytes_eq name (codes "swap_at(_:_:)")) (Some (changing SWAP_AT (an_index ∷ an_index ∷ []) unit)) None))

-- members that the type has by itself
abbrev pub own_member : Source → List TypeParam → PlainType → List ℕ → Option Signature
own_member source generics (Y.Array element) name = array_member element name
own_member source generics (Y.Param place) name =
    option_map (required source (Y.Param place) place) (requirement_named source name (bounds_at place generics))
own_member source generics type name = option_map (member_of source) (callable_named kind.Function name (members_of source type))

abbrev pub copying : PlainType → Signature
copying type = predeclared (Predeclared COPY) ReadReceiver [] type

-- what `.name(..)` with these labels calls on a value of this type
abbrev pub method_named : Source → List TypeParam → PlainType → List ℕ → List (Option (List ℕ)) → Option Signature
method_named source generics type name labels =
    cond (bytes_eq (full_name name labels) (codes "copy()")) (Some (copying type)) (own_member source generics type (full_name name labels))

-- what `.name[..]` with these labels calls on a value of this type; without a name, the brackets stand right after the value
abbrev pub subscript_of : Source → PlainType → List ℕ → List (Option (List ℕ)) → Option Signature
subscript_of source type name labels = option_map (member_of source) (callable_named kind.Subscript (full_name name labels) (members_of source type))

abbrev pub element_of : PlainType → Signature
element_of element = record (predeclared Element ArrayReceiver (parameter (Exactly Y.Int) Reads ∷ []) element) { is_subscript = true }

-- what `[..]` with these labels is after a value of this type
abbrev pub indexed : Source → PlainType → List (Option (List ℕ)) → Option Signature
indexed source (Y.Array element) labels = when (one_unlabelled labels) (element_of element)
indexed source type labels = subscript_of source type [] labels

-- WHAT A CALL GIVES

-- what is found for the type parameters from all arguments, from left to right
abbrev pub solved : List Parameter → List PlainType → Found → Option Found
solved [] [] found = Some found
solved (p ∷ params) (given ∷ more) found = option_and_then (solved params more) (fitted p.wanted given found)
solved params given found = None

-- whether a type parameter stands in the type of some parameter
abbrev pub wants : ℕ → Wanted → Truth
wants place (Exactly type) = mentions place type
wants place other = false

abbrev pub is_wanted : ℕ → List Parameter → Truth
is_wanted place [] = false
is_wanted place (p ∷ more) = wants place p.wanted || is_wanted place more

-- the first so many do
abbrev pub are_determined : ℕ → List Parameter → Truth
are_determined zero params = true
are_determined (suc place) params = are_determined place params && is_wanted place params

abbrev pub is_determined : Signature → Truth
is_determined s = are_determined s.generics s.params

-- `copy()` wants a type that is copyable
abbrev pub is_copy : Callee → Truth
is_copy (Predeclared number) = number == COPY
is_copy callee = false

abbrev pub copies_soundly : Source → List TypeParam → Signature → Truth
copies_soundly source generics s = not (is_copy s.callee) || is_copyable source generics s.result

-- the result of the call: the `inout` variant of a method bundle, which `&` picks, has none
abbrev pub result_as : Truth → Signature → PlainType
result_as marked s = cond (marked && s.is_bundle) unit s.result

-- The type of a call with such arguments. It has one where its type arguments are determined, all arguments have the types that
-- are wanted, and `copy()` copies what is copyable.
abbrev pub called_type : Source → List TypeParam → Truth → Signature → List PlainType → Option PlainType
called_type source generics marked s given =
    cond (is_determined s && copies_soundly source generics s) (option_map (λ found. replaced found (result_as marked s))
    (solved s.params given s.known)) None
