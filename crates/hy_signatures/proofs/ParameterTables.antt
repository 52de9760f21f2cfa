-- Parameters of what is called.
use Rattle.std.proofs.Common.{◌≡◌, ◌<◌, ℕ, zero, suc, ◌+◌, List, [], ◌∷◌, ◌++◌, length, get_or, take, map, refl, sym, ap, ◌∙◌, arith}
use Rattle.std.proofs.lemmas.List.{map_push, map_more, get_or-map, length-map}
use Rattle.hy_tree.specs.Denotes.{param_of}
use Rattle.hy_tree.specs.Tree as T
use Rattle.hy_tree.specs.declared.declaration.Param.{Param}
use Rattle.hy_types.specs.Types as Y
use Rattle.hy_types.specs.Types.{Table, PlainType, plain_types}
use Rattle.hy_types.specs.declared.kinds.TyId.{TyId}
use Rattle.hy_types.proofs.Reading.{below_at}
use Rattle.hy_tree.specs.declared.operator.Mode.TheVariants as mode
use Rattle.hy_types.specs.Types.{HasIds}
use Rattle.hy_signatures.specs.Declarations.{Field}
use Rattle.hy_signatures.specs.MembersShown.{HasFields, field_shown}
use Rattle.hy_signatures.specs.SignaturesShown.{field_parameter}
use Rattle.hy_signatures.specs.declared.members.FieldType.{FieldType}
use Rattle.hy_signatures.specs.CallablesShown.{parameter_types}
use Rattle.hy_signatures.specs.Declarations.{Source, written_type}
use Rattle.hy_signatures.specs.Numbered.{AreNumbers}
use Rattle.hy_signatures.specs.PlainTypes.{types}
use Rattle.hy_signatures.specs.Signatures as S
use Rattle.hy_signatures.specs.SignaturesShown.{parameter_shown, AreWanted, ParametersAre}
use Rattle.hy_signatures.specs.declared.signatures.Convention.TheVariants as convention
use Rattle.hy_signatures.specs.declared.signatures.Parameter.{Parameter}
use Rattle.hy_signatures.specs.declared.wanted.Wanted.TheVariants as wanted

as_long : (plain : TyId → PlainType) (ids : List TyId) (ts : List PlainType) → plain_types plain ids ≡ types ts → length ids ≡ length ts
as_long plain [] [] e = refl
as_long plain [] (t ∷ ts) e = absurd (cc)
as_long plain (id ∷ ids) [] e = absurd (cc)
as_long plain (id ∷ ids) (t ∷ ts) e = let tail : plain_types plain ids ≡ types ts = cc in ap suc (as_long plain ids ts tail)

type_at : (plain : TyId → PlainType) (ids : List TyId) (ts : List PlainType) (k : ℕ) (id : TyId) (t : PlainType) → plain_types plain ids ≡ types ts
    → k < length ids → plain (get_or ids k id) ≡ get_or ts k t
type_at plain [] ts k id t e lt = absurd (omega (arith, lt))
type_at plain (x ∷ ids) [] k id t e lt = absurd (cc)
type_at plain (x ∷ ids) (u ∷ ts) zero id t e lt = cc
type_at plain (x ∷ ids) (u ∷ ts) (suc k) id t e lt =
    let tail : plain_types plain ids ≡ types ts = cc in type_at plain ids ts k id t tail (omega (arith, lt))

wanted_push : (table : Table) (made : List Parameter) (p : Parameter) → AreWanted table made → AreWanted table (p ∷ []) → AreWanted table (made ++ p ∷ [])
wanted_push table [] p all one = one
wanted_push table (q ∷ made) p all one = (all.0, wanted_push table made p all.1 one)

abbrev pub exactly : TyId → T.Param → Parameter
exactly id p = record { wanted = wanted.Exactly id; convention = convention.By p.mode }

module _ (table : Table) (source : Source) (params : List Param) (ids : List TyId)
    (are : AreNumbers table (parameter_types source (map param_of params)) ids) where
  abbrev written : List PlainType
  written = map (λ (p : T.Param). written_type source p.written) (map param_of params)

  pub as_many : length ids ≡ length params
  as_many = as_long (Y.type_of table) ids written are.are ∙ length-map (map param_of params) (λ (p : T.Param). written_type source p.written)
      ∙ length-map params param_of

  pub parameter_more : (k : ℕ) (p : Param) (d : TyId) (made : List Parameter) → p ≡ get_or params k p → k < length params
      → ParametersAre table (S.parameters_of source (map param_of (take k params))) made
      → ParametersAre table (S.parameters_of source (map param_of (take (k + 1) params))) (made ++ exactly (get_or ids k d) (param_of p) ∷ [])
  parameter_more k p d made item lt so =
      let many = as_many in
      let inside : k < length ids = omega (arith, many, lt) in
      let type : Y.type_of table (get_or ids k d) ≡ written_type source (param_of p).written =
      type_at (Y.type_of table) ids written k d (written_type source (param_of p).written) are.are inside
      ∙ get_or-map (λ (q : T.Param). written_type source q.written) (map param_of params) k (param_of p) (written_type source (param_of p).written)
      (omega (arith, lt, length-map params param_of))
      ∙ ap (λ (q : T.Param). written_type source q.written) (get_or-map param_of params k p (param_of p) lt ∙ ap param_of (sym item)) in
      let one : S.Parameter = S.parameter (S.Exactly (written_type source (param_of p).written)) (S.By (param_of p).mode) in
      record {
        known = wanted_push table made (exactly (get_or ids k d) (param_of p)) so.known (below_at (length table.types) ids k d are.known inside, tt);
        are = map_push (parameter_shown table) made (exactly (get_or ids k d) (param_of p))
            ∙ (λ i. so.are i ++ record one { wanted = S.Exactly (type i) } ∷ [])
            ∙ sym (ap (S.parameters_of source) (map_more param_of params k p lt ∙ ap (λ q. map param_of (take k params) ++ param_of q ∷ []) (sym item))
            ∙ map_push (λ (q : T.Param). S.parameter (S.Exactly (written_type source q.written)) (S.By q.mode)) (map param_of (take k params)) (param_of p));
      }

-- FIELDS

fields_wanted : (table : Table) (kept : List FieldType) → HasIds table (map (λ (f : FieldType). f.number) kept) → AreWanted table (map field_parameter kept)
fields_wanted table [] known = tt
fields_wanted table (field ∷ more) known = (known.0, fields_wanted table more known.1)

fields_are : (table : Table) (kept : List FieldType) → map (parameter_shown table) (map field_parameter kept)
    ≡ map (λ (f : Field). S.parameter (S.Exactly f.type) (S.By mode.Sink)) (map (field_shown table) kept)
fields_are table [] = refl
fields_are table (field ∷ more) = ap (λ list. parameter_shown table (field_parameter field) ∷ list) (fields_are table more)

pub field_parameters_are : (table : Table) (list : List Field) (kept : List FieldType) → HasFields table list kept
    → ParametersAre table (map (λ (f : Field). S.parameter (S.Exactly f.type) (S.By mode.Sink)) list) (map field_parameter kept)
field_parameters_are table list kept has = record {
  known = fields_wanted table kept has.known;
  are = fields_are table kept ∙ ap (map (λ (f : Field). S.parameter (S.Exactly f.type) (S.By mode.Sink))) has.are;
}
