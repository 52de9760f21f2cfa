use Rattle.hy_access.proofs.Ancestors.{read_so}
use Rattle.hy_access.proofs.accesses.Accesses.may_read.Goals as goal

pub returns : goal.returns
returns c =
    let so = read_so c.self.inside.slots c.self.inside.newest c.self.invariant c.args.range c.args.through (rw (c.self.view_is) c.requires) in
    rw (← c.self.view_is) (λ yes. so.0 (c.is_clear.ensures.0 yes), λ may. c.is_clear.ensures.1 (so.1 may))
