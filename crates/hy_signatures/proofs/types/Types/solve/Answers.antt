use Rattle.std.proofs.Common.{length, arith}
use Rattle.hy_types.proofs.Reading.{below_at}
use Rattle.hy_signatures.specs.SolutionShown.{found_shown}
use Rattle.hy_signatures.proofs.MatchedTypes.{counts_differ, wanted_at}
use Rattle.hy_signatures.proofs.types.Types.solve.Goals as goal

pub returns-then-params-given-clause-found : goal.returns-then-params-given-clause-found
returns-then-params-given-clause-found c =
    counts_differ c.args.self.now c.args.params.now c.args.given.now (found_shown c.args.self.now c.args.found.now) (λ e. c.if-params-given.true e)

pub fit-requires-clause-wanted : goal.fit-requires-clause-wanted
fit-requires-clause-wanted c = wanted_at c.args.self.now c.args.params.now c.loop-k.k _ c.requires.params c.loop-k-test.true

pub fit-requires-clause-given : goal.fit-requires-clause-given
fit-requires-clause-given c =
    below_at (length c.args.self.now.types) c.args.given.now c.loop-k.k (record { at = 0 }) c.requires.given
    (let same = c.if-params-given.false in let lt = c.loop-k-test.true in omega (arith, same, lt))
