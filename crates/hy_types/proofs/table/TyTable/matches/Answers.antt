use Rattle.std.proofs.Common.{true, subst}
use Rattle.hy_types.specs.Matching.{Matches}
use Rattle.hy_types.proofs.Solving.{exactly}
use Rattle.hy_types.proofs.table.TyTable.matches.Goals as goal

pub returns-clause-exactly : goal.returns-clause-exactly
returns-clause-exactly c =
    exactly c.args.self.now c.args.wanted c.args.given c.args.found.now c.extend.new.found true
    (subst (λ old. Matches c.args.self.now c.args.wanted c.args.given old true c.extend.new.found) c.in_ok-trial.ensures c.if-not-extend.ensures.found)
