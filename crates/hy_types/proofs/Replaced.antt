-- Types with others in place of their parameters, in a table that grows.
use Rattle.std.proofs.Common.{◌≡◌, ◌<◌, ◌+◌, ℕ, List, [], ◌∷◌, ◌++◌, length, reverse, Some, take, get_or, refl, sym, ap, subst, ◌∙◌, arith, length-append}
use Rattle.std.proofs.Common.{append_assoc}
use Rattle.std.proofs.lemmas.List.{length-reverse, reverse-append, append-nil, take_more}
use Rattle.std.proofs.lemmas.Option.{slice_get_within, slice_get-get_or}
use Rattle.hy_types.specs.declared.kinds.TyId.{TyId}
use Rattle.hy_types.specs.declared.kinds.Ty.{Ty}
use Rattle.hy_types.specs.Types.{Table, HasId, HasIds, AllBelow, Extends, PlainType, More, plain_types, type_in, type_of}
use Rattle.hy_types.specs.Matching.{substitute, substitute_all, ParametersBelow, AllParametersBelow, Gives, Replaces, ReplacesAll}
use Rattle.hy_types.proofs.Reading.{type_in-before, same_plain, AllBelow-le, below_at}
use Rattle.hy_types.proofs.Solving.{parameters_at}

type_in-more : (more rows : List Ty) (id : TyId) → id.at < length rows → type_in (more ++ rows) id ≡ type_in rows id
type_in-more [] rows id l = refl
type_in-more (row ∷ more) rows id l = type_in-before row (more ++ rows) id (omega (arith, length-append more rows)) ∙ type_in-more more rows id l

module _ (old new : Table) (ext : Extends old new) where
  pub id_stays : (id : TyId) → HasId old id → HasId new id
  id_stays id l = omega (arith, l, ap length ext.types, length-append old.types ext.more)

  pub ids_stay : (ids : List TyId) → HasIds old ids → HasIds new ids
  ids_stay ids h = AllBelow-le (length old.types) (length new.types) ids (omega (arith, ap length ext.types, length-append old.types ext.more)) h

  pub type_kept : (id : TyId) → HasId old id → type_of new id ≡ type_of old id
  type_kept id l =
      ap (λ rows. type_in (reverse rows) id) ext.types ∙ ap (λ rows. type_in rows id) (reverse-append old.types ext.more)
      ∙ type_in-more (reverse ext.more) (reverse old.types) id (omega (arith, l, length-reverse old.types))

  pub types_kept : (ids : List TyId) → HasIds old ids → plain_types (type_of new) ids ≡ plain_types (type_of old) ids
  types_kept ids h = same_plain (type_of new) (type_of old) (length old.types) ids type_kept h

  pub gives_kept : (args : List TyId) → HasIds old args → (types : ℕ → PlainType) → Gives old args types → Gives new args types
  gives_kept args h types gives place id at =
      let l = slice_get_within args place id at in
      let e = slice_get-get_or args place id l in
      let f : Some id ≡ Some (get_or args place id) = sym at ∙ e in
      let same : id ≡ get_or args place id = cc in
      let m : id.at < length old.types = subst (λ (i : TyId). i.at < length old.types) (sym same) (below_at (length old.types) args place id h l) in
      gives place id at ∙ sym (type_kept id m)

pub extends_itself : (table : Table) → Extends table table
extends_itself table = record { more = []; types = sym (append-nil table.types); products = refl }

pub extends_on : (a b c : Table) → Extends a b → Extends b c → Extends a c
extends_on a b c p q = record {
  more = p.more ++ q.more;
  types = q.types ∙ ap (λ rows. rows ++ q.more) p.types
      ∙ append_assoc a.types p.more q.more;
  products = q.products ∙ p.products;
}

plain_push : (f g : TyId → PlainType) (types : ℕ → PlainType) (xs ts : List TyId) (x t : TyId) → plain_types f xs ≡ substitute_all types (plain_types g ts)
    → f x ≡ substitute types (g t)
    → plain_types f (xs ++ x ∷ []) ≡ substitute_all types (plain_types g (ts ++ t ∷ []))
plain_push f g types [] [] x t e h = λ i. More (h i) (plain_types f [])
plain_push f g types [] (u ∷ ts) x t e h = cc
plain_push f g types (y ∷ xs) [] x t e h = cc
plain_push f g types (y ∷ xs) (u ∷ ts) x t e h =
    let head : f y ≡ substitute types (g u) = cc in
    let tail : plain_types f xs ≡ substitute_all types (plain_types g ts) = cc in
    λ i. More (head i) (plain_push f g types xs ts x t tail h i)

pub below_push : (n : ℕ) (ids : List TyId) (id : TyId) → AllBelow n ids → id.at < n → AllBelow n (ids ++ id ∷ [])
below_push n [] id h l = (l, tt)
below_push n (x ∷ ids) id h l = (h.0, below_push n ids id h.1 l)

-- after some types of a list
pub record Replacing (old : Table) (args tys : List TyId) (now : Table) (ids : List TyId) (place : ℕ) : Type 0 where
  pub stays : Extends old now
  pub known : HasIds now ids
  pub replaced : ReplacesAll old args (take place tys) now ids

module _ (old : Table) (args tys : List TyId) (owned : HasIds old tys) (given : HasIds old args) where
  pub replacing_start : Replacing old args tys old [] 0
  replacing_start = record { stays = extends_itself old; known = tt; replaced = λ types gives. refl }

  module _ (now : Table) (ids : List TyId) (place : ℕ) (l : place < length tys) (before : Replacing old args tys now ids place) where
    part_known : (d : TyId) → HasId old (get_or tys place d)
    part_known d = below_at (length old.types) tys place d owned l

    pub replacing_part : (d : TyId) → HasId now (get_or tys place d)
    replacing_part d = id_stays old now before.stays (get_or tys place d) (part_known d)

    pub replacing_places : (d : TyId) (count : ℕ) → AllParametersBelow count (plain_types (type_of old) tys)
        → ParametersBelow count (type_of now (get_or tys place d))
    replacing_places d count h =
        subst (ParametersBelow count) (sym (type_kept old now before.stays (get_or tys place d) (part_known d)))
        (parameters_at old count tys place (get_or tys place d) h (slice_get-get_or tys place d l))

    pub replacing_more : (d : TyId) (new : Table) (id : TyId) → Extends now new → HasId new id → Replaces now args (get_or tys place d) new id
        → Replacing old args tys new (ids ++ id ∷ []) (place + 1)
    replacing_more d new id ext has h = record {
      stays = extends_on old now new before.stays ext;
      known = below_push (length new.types) ids id (ids_stay now new ext ids before.known) has;
      replaced = λ types gives.
          let part = get_or tys place d in
          let one : type_of new id ≡ substitute types (type_of old part) = h types (gives_kept old now before.stays args given types gives)
          ∙ ap (substitute types) (type_kept old now before.stays part (part_known d)) in
          let all : plain_types (type_of new) ids ≡ substitute_all types (plain_types (type_of old) (take place tys)) =
          types_kept now new ext ids before.known ∙ before.replaced types gives in
          plain_push (type_of new) (type_of old) types ids (take place tys) id part all one
          ∙ ap (λ ts. substitute_all types (plain_types (type_of old) ts)) (sym (take_more tys place d l));
    }
