-- The test whether two types are the same tells whether they are equal.
use Rattle.hy_signatures.specs.NamedShown.{named_shown}
use Rattle.hy_signatures.specs.declared.named.Named.{Named}
use Rattle.hy_signatures.specs.declared.named.Named.TheVariants as named
use Rattle.std.proofs.Common.{List, [], ◌∷◌, length}
use Rattle.std.proofs.Common.{◌≡◌, refl, sym, ap, ◌∙◌, Bool, true, false, ◌&&◌, ◌==◌}
use Rattle.std.proofs.lemmas.Bool.{true≢false, eqb-true, eq-eqb}
use Rattle.std.specs.Bool.{Decides}
use Rattle.hy_base.specs.declared.numbers.Num.{Num}
use Rattle.hy_base.specs.declared.numbers.Num.TheVariants.{I8, I16, I32, U8, U16, U32, U64}
use Rattle.hy_types.specs.Types as Y
use Rattle.hy_types.specs.Types.{PlainType, PlainTypes}
use Rattle.hy_types.specs.declared.kinds.TyId.{TyId}
use Rattle.hy_signatures.specs.PlainTypes.{same_num, same_type, same_types}

left : (a b : Bool) → a && b ≡ true → a ≡ true
left true b h = refl
left false b h = absurd (true≢false (sym h))

right : (a b : Bool) → a && b ≡ true → b ≡ true
right true b h = h
right false b h = absurd (true≢false (sym h))

both : (a b : Bool) → a ≡ true → b ≡ true → a && b ≡ true
both true b one two = two
both false b one two = absurd (true≢false (sym one))

pub equal_num : (a b : Num) → same_num a b ≡ true → a ≡ b
equal_num I8 I8 h = refl
equal_num I16 I16 h = refl
equal_num I32 I32 h = refl
equal_num U8 U8 h = refl
equal_num U16 U16 h = refl
equal_num U32 U32 h = refl
equal_num U64 U64 h = refl
equal_num a b h = absurd (true≢false (sym h))

num_itself : (a : Num) → same_num a a ≡ true
num_itself I8 = refl
num_itself I16 = refl
num_itself I32 = refl
num_itself U8 = refl
num_itself U16 = refl
num_itself U32 = refl
num_itself U64 = refl

mutual
  pub equal : (a b : PlainType) → same_type a b ≡ true → a ≡ b
  equal Y.Int Y.Int h = refl
  equal (Y.Sized a) (Y.Sized b) h = ap Y.Sized (equal_num a b h)
  equal Y.Bool Y.Bool h = refl
  equal (Y.Tuple ps) (Y.Tuple qs) h = ap Y.Tuple (all_equal ps qs h)
  equal (Y.Product a) (Y.Product b) h = ap Y.Product (eqb-true a b h)
  equal (Y.Array a) (Y.Array b) h = ap Y.Array (equal a b h)
  equal (Y.Param a) (Y.Param b) h = ap Y.Param (eqb-true a b h)
  equal a b h = absurd (true≢false (sym h))

  pub all_equal : (ps qs : PlainTypes) → same_types ps qs ≡ true → ps ≡ qs
  all_equal Y.End Y.End h = refl
  all_equal (Y.More p ps) (Y.More q qs) h =
      λ i. Y.More (equal p q (left (same_type p q) (same_types ps qs) h) i) (all_equal ps qs (right (same_type p q) (same_types ps qs) h) i)
  all_equal ps qs h = absurd (true≢false (sym h))

mutual
  pub itself : (a : PlainType) → same_type a a ≡ true
  itself Y.Int = refl
  itself (Y.Sized a) = num_itself a
  itself Y.Bool = refl
  itself (Y.Tuple ps) = all_itself ps
  itself (Y.Product a) = eq-eqb a a refl
  itself (Y.Array a) = itself a
  itself (Y.Param a) = eq-eqb a a refl

  pub all_itself : (ps : PlainTypes) → same_types ps ps ≡ true
  all_itself Y.End = refl
  all_itself (Y.More p ps) = both (same_type p p) (same_types ps ps) (itself p) (all_itself ps)

pub decides : (a b : PlainType) → Decides (same_type a b) (a ≡ b)
decides a b = (equal a b, λ e. ap (same_type a) (sym e) ∙ itself a)

pub one_answer : (a b : Bool) → (a ≡ true → b ≡ true) → (b ≡ true → a ≡ true) → a ≡ b
one_answer true b to back = sym (to refl)
one_answer false true to back = back refl
one_answer false false to back = refl

-- two numbers of one type are one
pub same_numbers : (table : Y.Table) (one other : TyId) → (Y.type_of table other ≡ Y.type_of table one → other ≡ one)
    → (one.at == other.at) ≡ same_type (Y.type_of table one) (Y.type_of table other)
same_numbers table one other once =
    one_answer (one.at == other.at) (same_type (Y.type_of table one) (Y.type_of table other))
    (λ e. let same : one ≡ other = λ i. record { at = eqb-true one.at other.at e i } in
    (decides (Y.type_of table one) (Y.type_of table other)).1 (ap (Y.type_of table) same))
    (λ e. eq-eqb one.at other.at (ap (λ (id : TyId). id.at) (sym (once (sym (equal (Y.type_of table one) (Y.type_of table other) e))))))

-- no name stands for a tuple that has parts
pub not_named : (plain : TyId → PlainType) (ids : List TyId) → (length ids == 0) ≡ false → (named : Named)
    → same_type (Y.Tuple (Y.plain_types plain ids)) (named_shown named) ≡ false
not_named plain [] h named = absurd (true≢false h)
not_named plain (id ∷ ids) h named.Int = refl
not_named plain (id ∷ ids) h named.Bool = refl
not_named plain (id ∷ ids) h (named.Sized num) = refl
not_named plain (id ∷ ids) h named.Unit = refl
not_named plain (id ∷ ids) h (named.Product declaration) = refl
not_named plain (id ∷ ids) h (named.Param place) = refl
