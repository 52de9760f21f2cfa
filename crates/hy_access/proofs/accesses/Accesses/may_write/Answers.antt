use Rattle.hy_access.proofs.Ancestors.{write_so}
use Rattle.hy_access.proofs.accesses.Accesses.may_write.Goals as goal

pub returns-then-writes : goal.returns-then-writes
returns-then-writes c =
    let so = write_so c.self.inside.slots c.self.inside.newest c.self.invariant c.args.range c.args.through (rw (c.self.view_is) c.requires) in
    let writes = c.writes.ensures.0 c.if-writes.true in
    rw (← c.self.view_is) (
      λ yes. record { alone = so.0 (c.is_clear.ensures.0 yes); writes = rw (c.self.view_is) writes },
      λ may. c.is_clear.ensures.1 (so.1 may.alone),
    )
