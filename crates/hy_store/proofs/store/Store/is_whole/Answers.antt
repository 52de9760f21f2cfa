use Rattle.std.proofs.Common.{sym, ◌∙◌}
use Rattle.hy_store.proofs.Wholes.{whole_is}
use Rattle.hy_store.proofs.store.Store.is_whole.Goals as goal

pub returns : goal.returns
returns c = λ g s represents. whole_is g c.args.self.now c.args.fun.now s represents c.args.reach.range c.cells.result.now c.cells.ensures
    ∙ sym c.are_set.ensures
