use Rattle.hy_check.proofs.Knowing.{grown, grown_right}
use Rattle.hy_check.proofs.checker.Checker.number.Goals as goal

pub returns-clause-right : goal.returns-clause-right
returns-clause-right c = grown_right c.args.self.now c.number.new.self c.requires.right c.number.ensures.stays

pub returns-clause-learns : goal.returns-clause-learns
returns-clause-learns c = grown c.args.self.now c.number.new.self c.requires.right c.number.ensures.stays
