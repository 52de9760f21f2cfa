use Rattle.hy_signatures.proofs.MatchedTypes.{wanted_at}
use Rattle.hy_signatures.proofs.types.Types.is_wanted.Goals as goal

pub wants-requires : goal.wants-requires
wants-requires c = wanted_at c.args.self.now c.args.params.now c.loop-p.p-index _ c.requires c.loop-p-test.true
