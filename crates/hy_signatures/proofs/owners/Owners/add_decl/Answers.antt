use Rattle.std.proofs.Common.{◌≡◌, ◌&&◌, cond, [], map, sym, ap, ◌∙◌}
use Rattle.std.specs.Option.{unwrap_or}
use Rattle.hy_tree.specs.Denotes.{member_of, decl_kind_of}
use Rattle.hy_signatures.specs.Declarations.{members_for, declared_copyable, lists_copyable, named_type, type_meant}
use Rattle.hy_signatures.specs.NamedShown.{named_shown}
use Rattle.hy_signatures.specs.PlainTypes.{same_type, unit}
use Rattle.hy_signatures.specs.declared.named.Named.TheVariants as named
use Rattle.hy_signatures.specs.Shown.{source_shown}
use Rattle.hy_signatures.proofs.OwnerTables.{adds_alike}
use Rattle.hy_signatures.proofs.owners.Owners.add_decl.Goals as goal

pub returns-in_ok-add-in-Product : goal.returns-in_ok-add-in-Product
returns-in_ok-add-in-Product c =
    let source = source_shown c.args.source.now in
    let owner = named_shown (named.Product c.in-Product.p.node) in
    adds_alike c.args.types.now c.add.new.types source c.args.self.now c.add.new.self _
    (λ named. members_for source (named_shown named) (decl_kind_of c.args.decl.now)) _
    (λ named. declared_copyable source (named_shown named) (decl_kind_of c.args.decl.now)) c.in_ok-add-in-Product.ensures
    (λ named. ap (λ members. cond (same_type (named_shown named) owner) (map member_of members) []) c.as_slice-members.ensures
    ∙ ap (λ kind. members_for source (named_shown named) (decl_kind_of kind)) (sym c.in-Product.is))
    (λ named. ap (λ traits. same_type (named_shown named) owner && lists_copyable source traits) c.as_slice.ensures
    ∙ ap (λ kind. declared_copyable source (named_shown named) (decl_kind_of kind)) (sym c.in-Product.is))

pub returns-in_ok-add-in-Conformance : goal.returns-in_ok-add-in-Conformance
returns-in_ok-add-in-Conformance c =
    let source = source_shown c.args.source.now in
    let target : named_shown c.type_named-named.result ≡ named_type source c.in-Conformance.c.target.node =
    c.type_named-named.ensures ∙ ap (λ meaning. unwrap_or (type_meant meaning) unit) c.meaning.ensures in
    adds_alike c.args.types.now c.add-in-Conformance.new.types source c.args.self.now c.add-in-Conformance.new.self _
    (λ named. members_for source (named_shown named) (decl_kind_of c.args.decl.now)) _
    (λ named. declared_copyable source (named_shown named) (decl_kind_of c.args.decl.now)) c.in_ok-add-in-Conformance.ensures
    (λ named. (λ i. cond (same_type (named_shown named) (target i)) (map member_of (c.as_slice-members-in-Conformance.ensures i)) [])
    ∙ ap (λ kind. members_for source (named_shown named) (decl_kind_of kind)) (sym c.in-Conformance.is))
    (λ named. (λ i. same_type (named_shown named) (target i) && lists_copyable source (c.as_slice-in-Conformance.ensures i))
    ∙ ap (λ kind. declared_copyable source (named_shown named) (decl_kind_of kind)) (sym c.in-Conformance.is))
