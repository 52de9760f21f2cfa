use Rattle.std.proofs.Common.{length, ap, arith}
use Rattle.hy_blocks.proofs.Listed.{taken}
use Rattle.hy_blocks.specs.Tables.{look}
use Rattle.hy_blocks.proofs.region.Region.make.Goals as goal

pub returns-clause-name : goal.returns-clause-name
returns-clause-name c = let count = taken (look c.self.inside.table) c.self.inside.taken in
    omega (arith, count, ap length c.self.view_is, c.if-self-ge-NAMES.false)
