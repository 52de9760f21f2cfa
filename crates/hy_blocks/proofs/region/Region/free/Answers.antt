use Rattle.std.proofs.Common.{slice_set, None, ap, ◌∙◌}
use Rattle.hy_blocks.proofs.Listed.{known, all_set}
use Rattle.hy_blocks.proofs.region.Region.free.Goals as goal

pub remove-requires : goal.remove-requires
remove-requires c = known _ c.self.inside.taken _ c.self.view_is c.args.name (λ cells. Unit {0}) c.requires

pub returns : goal.returns
returns c = all_set _ _ c.self.inside.taken c.args.name None c.remove.ensures.left ∙ ap (λ l. slice_set l c.args.name None) c.self.view_is
