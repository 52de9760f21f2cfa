use Rattle.std.proofs.Common.{◌+◌, List, map, take, take_all, subst}
use Rattle.hy_tree.specs.Denotes.{decl_of}
use Rattle.hy_tree.specs.declared.declaration.Decl.{Decl}
use Rattle.hy_signatures.specs.Declarations.{trait_members, members_of_trait}
use Rattle.hy_signatures.specs.Shown.{source_shown}
use Rattle.hy_signatures.specs.TraitsShown.{AddsTraits}
use Rattle.hy_signatures.proofs.TraitTables.{traits_more, trait_longer}
use Rattle.hy_signatures.proofs.traits.Traits.add_decls.Goals as goal

pub loop-decl-preserved : goal.loop-decl-preserved
loop-decl-preserved c =
    let all = c.args.decls.now in
    let k = c.loop-decl.decl-index in
    traits_more c.args.types.now c.loop-decl.types c.add_decl.new.types (source_shown c.args.source.now) c.args.self.now c.loop-decl.self c.add_decl.new.self
    (λ node. members_of_trait node (map decl_of (take k all))) (λ node. trait_members node (decl_of c.decl-item.result).kind)
    (λ node. members_of_trait node (map decl_of (take (k + 1) all))) c.loop-decl.invariant c.in_ok-add_decl.ensures
    (λ node. trait_longer node all k c.decl-item.result c.decl-item.is c.loop-decl-test.true)

pub returns : goal.returns
returns c =
    subst (λ (decls : List Decl). AddsTraits c.args.types.now c.loop-decl.types (source_shown c.args.source.now)
    (λ node. members_of_trait node (map decl_of decls)) c.args.self.now c.loop-decl.self)
    (take_all c.loop-decl.decl-index c.args.decls.now c.loop-decl-test.false) c.loop-decl.invariant
