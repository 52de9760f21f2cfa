use Rattle.hy_check.proofs.Knowing.{grown, grown_right}
use Rattle.hy_check.proofs.checker.Checker.named.Goals as goal

pub returns-clause-right : goal.returns-clause-right
returns-clause-right c = grown_right c.args.self.now c.number_named.new.self c.requires c.number_named.ensures.stays

pub returns-clause-learns : goal.returns-clause-learns
returns-clause-learns c = grown c.args.self.now c.number_named.new.self c.requires c.number_named.ensures.stays
