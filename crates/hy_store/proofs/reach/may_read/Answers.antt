use Rattle.std.proofs.lemmas.Bool.Decides.{same_from_decides}
use Rattle.hy_store.proofs.Chains.{may_read_is}
use Rattle.hy_store.proofs.reach.may_read.Goals as goal

pub returns : goal.returns
returns c = λ s name told. same_from_decides _ _ (may_read_is c.args.accesses.now name s.access s.counts.opened told c.args.reach.range c.args.reach.through
    c.requires) c.may_read.ensures
