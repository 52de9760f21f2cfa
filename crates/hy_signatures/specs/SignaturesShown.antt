-- What the code's words for what is called show.
use Rattle.std.specs.Prelude.{◌≡◌, List, [], ◌∷◌, Option, Some, None, map, IfSome}
use Rattle.hy_types.specs.Types.{Table, HasId, type_of}
use Rattle.hy_types.specs.declared.kinds.TyId.{TyId}
use Rattle.hy_signatures.specs.PlainTypes.{Found, nothing_found, with_found}
use Rattle.hy_signatures.specs.Signatures as S
use Rattle.hy_signatures.specs.WantedShown.{wanted_shown, IsWanted}
use Rattle.hy_signatures.specs.declared.signatures.Convention.{Convention}
use Rattle.hy_signatures.specs.declared.signatures.Convention.TheVariants as convention
use Rattle.hy_signatures.specs.declared.signatures.Parameter.{Parameter}
use Rattle.hy_tree.specs.declared.operator.Mode.TheVariants as mode
use Rattle.hy_signatures.specs.declared.members.FieldType.{FieldType}
use Rattle.hy_signatures.specs.declared.wanted.Wanted.TheVariants as wanted
use Rattle.hy_signatures.specs.declared.signatures.Callee.{Callee}
use Rattle.hy_signatures.specs.declared.signatures.Callee.TheVariants as callee
use Rattle.hy_signatures.specs.declared.signatures.Receiver.{Receiver}
use Rattle.hy_signatures.specs.declared.signatures.Receiver.TheVariants as receiver
use Rattle.hy_signatures.specs.declared.signatures.Signature.{Signature}

abbrev pub convention_shown : Convention → S.Convention
convention_shown convention.Reads = S.Reads
convention_shown (convention.By mode) = S.By mode

abbrev pub parameter_shown : Table → Parameter → S.Parameter
parameter_shown table p = record { wanted = wanted_shown table p.wanted; convention = convention_shown p.convention }

-- all wanted types are of the table
abbrev pub AreWanted : Table → List Parameter → Type 0
AreWanted table [] = Unit {0}
AreWanted table (p ∷ more) = IsWanted table p.wanted × AreWanted table more

-- these are the parameters
pub record ParametersAre (table : Table) (wanted : List S.Parameter) (made : List Parameter) : Type 0 where
  pub known : AreWanted table made
  pub are : map (parameter_shown table) made ≡ wanted

abbrev pub receiver_shown : Receiver → S.Receiver
receiver_shown receiver.Nothing = S.NoReceiver
receiver_shown receiver.Read = S.ReadReceiver
receiver_shown receiver.Itself = S.SelfReceiver
receiver_shown receiver.OfElement = S.ArrayReceiver

abbrev pub callee_shown : Table → Callee → S.Callee
callee_shown table (callee.Declared node) = S.Declared node
callee_shown table (callee.Required requirement place) = S.Required requirement place
callee_shown table (callee.Predeclared number) = S.Predeclared number
callee_shown table (callee.Initialiser product) = S.Initialiser product
callee_shown table (callee.Conversion to) = S.Conversion (type_of table to)
callee_shown table callee.Element = S.Element

-- only `Self` of a requirement is known beforehand
abbrev pub known_shown : Table → Option TyId → Found
known_shown table None = nothing_found
known_shown table (Some id) = with_found 0 (type_of table id) nothing_found

abbrev pub signature_shown : Table → Signature → S.Signature
signature_shown table s = record {
  callee = callee_shown table s.callee;
  generics = s.generics;
  known = known_shown table s.known;
  receiver = receiver_shown s.receiver;
  variants = s.variants.items;
  params = map (parameter_shown table) s.params.items;
  result = type_of table s.result;
  is_subscript = s.is_subscript;
  is_bundle = s.is_bundle;
}

-- this is the signature
pub record IsSignature (table : Table) (wanted : S.Signature) (s : Signature) : Type 0 where
  pub params : AreWanted table s.params.items
  pub result : HasId table s.result
  pub known : IfSome s.known (λ id. HasId table id)
  pub is : signature_shown table s ≡ wanted

-- this is the signature, where there is one
abbrev pub IsPerhaps : Table → Option S.Signature → Option Signature → Type 0
IsPerhaps table None None = Unit {0}
IsPerhaps table (Some wanted) (Some s) = IsSignature table wanted s
IsPerhaps table None (Some s) = ⊥
IsPerhaps table (Some wanted) None = ⊥

-- the parameter for a field
abbrev pub field_parameter : FieldType → Parameter
field_parameter field = record { wanted = wanted.Exactly field.number; convention = convention.By mode.Sink }
