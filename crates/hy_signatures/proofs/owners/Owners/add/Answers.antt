use Rattle.std.proofs.Common.{map, ap, ◌||◌}
use Rattle.hy_tree.specs.Denotes.{member_of}
use Rattle.hy_signatures.specs.Declarations as declarations
use Rattle.hy_signatures.specs.Shown.{source_shown}
use Rattle.hy_signatures.proofs.OwnerTables.{adds_one}
use Rattle.hy_signatures.proofs.owners.Owners.add.Goals as goal

pub returns : goal.returns
returns c =
    let source = source_shown c.args.source.now in
    adds_one c.args.types.now c.add_all.new.types source c.args.self.now c.take-owner.new.self c.put.new.self c.args.named (map member_of c.args.members.now)
    (declarations.lists_copyable source c.args.traits.now) c.take-owner.result _ (c.take-owner.ensures.owner c.args.types.now source)
    c.take-owner.ensures.rest c.in_ok-add_all.ensures.members (ap (λ b. c.take-owner.result.copyable || b) c.lists_copyable.ensures)
    c.in_ok-put.ensures c.in_ok-add_all.ensures.stays
