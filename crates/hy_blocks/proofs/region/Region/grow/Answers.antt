use Rattle.std.proofs.Common.{◌∙◌}
use Rattle.hy_blocks.proofs.Growing.{old_live, new_fits, grown}
use Rattle.hy_blocks.proofs.region.Region.grow.Goals as goal

pub remove-old-requires : goal.remove-old-requires
remove-old-requires c = old_live _ c.self.inside.taken c.args.self.now c.in_ok-raw.raw c.args.words c.args.name (c.self.view_is ∙
    c.in_ok-new.ensures.taken) c.in_ok-raw.ensures.made c.requires

pub fill-requires : goal.fill-requires
fill-requires c = new_fits _ c.self.inside.taken c.args.self.now c.in_ok-raw.raw c.args.words c.args.name (c.self.view_is ∙
    c.in_ok-new.ensures.taken) c.in_ok-raw.ensures.made c.requires
    c.in_ok-new.new c.in_ok-new.ensures.name _ c.remove-old.result c.remove-old.ensures.block c.remove-old.ensures.left

pub returns-clause-grown : goal.returns-clause-grown
returns-clause-grown c = grown _ c.self.inside.taken c.args.self.now c.in_ok-raw.raw c.args.words c.args.name (c.self.view_is ∙
    c.in_ok-new.ensures.taken) c.in_ok-raw.ensures.made c.requires
    c.in_ok-new.new c.in_ok-new.ensures.name _ c.remove-old.result c.remove-old.ensures.block c.remove-old.ensures.left _ c.fill.ensures
