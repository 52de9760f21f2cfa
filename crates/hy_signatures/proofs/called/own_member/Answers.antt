use Rattle.std.proofs.Common.{◌≡◌, Option, inl, inr, refl, sym, subst}
use Rattle.std.specs.Option.{option_map}
use Rattle.hy_tree.specs.declared.declaration.CallableKind.TheVariants as kind
use Rattle.hy_types.specs.Types.{PlainType, type_of, type_of_row}
use Rattle.hy_types.specs.declared.kinds.Ty.{Ty}
use Rattle.hy_signatures.specs.Declarations.{callable_named, members_of}
use Rattle.hy_signatures.specs.Shown.{source_shown}
use Rattle.hy_signatures.specs.Signatures as S
use Rattle.hy_signatures.specs.Signatures.{member_of}
use Rattle.hy_signatures.specs.SignaturesShown.{IsPerhaps}
use Rattle.hy_signatures.proofs.called.own_member.Goals as goal

pub returns-in_ok-s-in-Int : goal.returns-in_ok-s-in-Int
returns-in_ok-s-in-Int c =
    let table = c.args.types.now in
    let source = source_shown c.args.source.now in
    let declared : PlainType → Option S.Signature =
    λ type. option_map (member_of source) (callable_named kind.Function c.args.name.now (members_of source type)) in
    let IsDeclared : Ty → Type 0 =
    λ row. declared (type_of_row table row) ≡ S.own_member source c.args.generics.now (type_of_row table row) c.args.name.now in
    let is : IsDeclared c.get.result.now = elim c.in-Int.is [
      | inl e ↦ subst IsDeclared (sym e) refl
      | inr (inl h) ↦ subst IsDeclared (sym h.1) refl
      | inr (inr (inl e)) ↦ subst IsDeclared (sym e) refl
      | inr (inr (inr (inl h))) ↦ subst IsDeclared (sym h.1) refl
      | inr (inr (inr (inr h))) ↦ subst IsDeclared (sym h.1) refl
    ] in
    let same : declared (type_of table c.args.id) ≡ S.own_member source c.args.generics.now (type_of table c.args.id) c.args.name.now =
    subst (λ (type : PlainType). declared type ≡ S.own_member source c.args.generics.now type c.args.name.now) (sym c.get.ensures.equal) is in
    subst (λ wanted. IsPerhaps table wanted c.in_ok-s-in-Int.s) same (c.in_ok-s-in-Int.ensures source c.requires.tables)
