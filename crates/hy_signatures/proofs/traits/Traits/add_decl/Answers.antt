use Rattle.std.proofs.Common.{◌==◌, cond, [], map, sym, ap, ◌∙◌}
use Rattle.hy_tree.specs.Denotes.{member_of, decl_kind_of}
use Rattle.hy_signatures.specs.Declarations.{trait_members}
use Rattle.hy_signatures.specs.Shown.{source_shown}
use Rattle.hy_signatures.proofs.TraitTables.{traits_alike}
use Rattle.hy_signatures.proofs.traits.Traits.add_decl.Goals as goal

pub returns-in_ok-add-in-Trait : goal.returns-in_ok-add-in-Trait
returns-in_ok-add-in-Trait c =
    traits_alike c.args.types.now c.add.new.types (source_shown c.args.source.now) c.args.self.now c.add.new.self _
    (λ node. trait_members node (decl_kind_of c.args.decl.now)) c.in_ok-add-in-Trait.ensures
    (λ node. ap (λ members. cond (c.in-Trait.t.node == node) (map member_of members) []) c.as_slice.ensures
    ∙ ap (λ kind. trait_members node (decl_kind_of kind)) (sym c.in-Trait.is))
