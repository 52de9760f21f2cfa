use Rattle.std.proofs.Common.{map}
use Rattle.hy_tree.specs.Denotes.{member_of}
use Rattle.hy_signatures.specs.Shown.{source_shown}
use Rattle.hy_signatures.proofs.TraitTables.{trait_added}
use Rattle.hy_signatures.proofs.traits.Traits.add.Goals as goal

pub returns : goal.returns
returns c =
    let source = source_shown c.args.source.now in
    trait_added c.args.types.now c.add_all.new.types source c.args.self.now c.take-kept.new.self c.put.new.self c.args.node
    (map member_of c.args.members.now)
    c.take-kept.result _ (c.take-kept.ensures.members c.args.types.now source) c.take-kept.ensures.rest c.in_ok-add_all.ensures.members c.in_ok-put.ensures
    c.in_ok-add_all.ensures.stays
