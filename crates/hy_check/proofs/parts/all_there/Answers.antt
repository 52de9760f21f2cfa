use Rattle.std.proofs.Common.{List, sym, subst, ◌+◌}
use Rattle.hy_types.specs.declared.kinds.TyId.{TyId}
use Rattle.hy_check.proofs.PartValues.{AreFirst, first_more, first_stops, first_all}
use Rattle.hy_check.proofs.parts.all_there.Goals as goal

pub returns-in_default-clause-types : goal.returns-in_default-clause-types
returns-in_default-clause-types c table around h =
    first_stops table around c.args.parts.now h c.loop-part.part-index c.part-item.result c.part-item.is c.loop-part-test.true
    c.loop-part.ids.items c.in_default.is (c.loop-part.invariant table around h)

pub loop-part-preserved : goal.loop-part-preserved
loop-part-preserved c table around h =
    subst (λ (ids : List TyId). AreFirst table around c.args.parts.now (c.loop-part.part-index + 1) ids) (sym c.in_ok-push.ensures.items)
    (first_more table around c.args.parts.now h c.loop-part.part-index c.part-item.result c.part-item.is c.loop-part-test.true
    c.loop-part.ids.items c.in-Some.v c.in-Some.is (c.loop-part.invariant table around h))

pub returns-clause-types : goal.returns-clause-types
returns-clause-types c table around h =
    first_all table around c.args.parts.now c.loop-part.ids.items c.loop-part.part-index c.loop-part-test.false (c.loop-part.invariant table around h)

pub returns-clause-known : goal.returns-clause-known
returns-clause-known c table around h = (c.loop-part.invariant table around h).known
