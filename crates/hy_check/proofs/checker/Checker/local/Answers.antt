use Rattle.std.proofs.Common.{sym}
use Rattle.hy_check.proofs.Knowing.{local_known}
use Rattle.hy_check.proofs.checker.Checker.local.Goals as goal

pub returns-in-Some-clause-known : goal.returns-in-Some-clause-known
returns-in-Some-clause-known c = local_known c.args.self.now c.args.node c.in-Some.id.now c.requires (sym c.in-Some.ensures.value)
