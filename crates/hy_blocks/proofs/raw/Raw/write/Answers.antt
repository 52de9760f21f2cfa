use Rattle.std.proofs.Common.{Some}
use Rattle.hy_blocks.proofs.Flags.{changed}
use Rattle.hy_blocks.proofs.raw.Raw.write.Goals as goal

pub invariant_of-self : goal.invariant_of-self
invariant_of-self c = changed _ _ _ _ _ _ _ c.args.at (Some _) c.self.invariant c.write.ensures
