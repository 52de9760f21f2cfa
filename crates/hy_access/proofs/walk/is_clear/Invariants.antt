use Rattle.std.proofs.Common.{◌↔◌, ◌-◌}
use Rattle.hy_links.specs.Chains.{chain_from}
use Rattle.hy_links.specs.Linked.{before_at, newest_first}
use Rattle.hy_access.specs.Forest.{order, slot_of_id, parent_at}
use Rattle.hy_access.specs.Clear.{ForbidsAt, Clear}
use Rattle.hy_access.proofs.walk.is_clear.Given as goal

-- the whole is clear exactly where what is left is
abbrev pub invariant-loop : goal.invariant-loop
invariant-loop l =
    Clear (ForbidsAt l.slots l.way l.range) (parent_at l.slots) (slot_of_id l.fn.through) (newest_first order l.slots l.fn.newest)
    ↔ Clear (ForbidsAt l.slots l.way l.range) (parent_at l.slots) l.up (chain_from (before_at order l.slots) (l.end - l.counter) l.at)
