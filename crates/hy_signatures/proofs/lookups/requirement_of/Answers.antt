use Rattle.hy_signatures.specs.Shown.{source_shown}
use Rattle.hy_signatures.proofs.MemberTables.{bound_found, bound_later}
use Rattle.hy_signatures.proofs.lookups.requirement_of.Goals as goal

pub returns-in-Some : goal.returns-in-Some
returns-in-Some c table traits =
    bound_found (source_shown c.args.source.now) c.args.name.now c.args.bounds.now c.loop-bound.bound-index c.bound-item.result c.bound-item.is
    c.loop-bound-test.true table (c.loop-bound.invariant table traits) c.in-Some.row.now (c.in-Some.ensures table traits)

pub loop-bound-preserved : goal.loop-bound-preserved
loop-bound-preserved c table traits =
    bound_later (source_shown c.args.source.now) c.args.name.now c.args.bounds.now c.loop-bound.bound-index c.bound-item.result c.bound-item.is
    c.loop-bound-test.true table (c.loop-bound.invariant table traits) (c.in_default.ensures table traits)
