use Rattle.std.proofs.Common.{◌<◌, ◌≤◌, length, sym, arith}
use Rattle.hy_checked.proofs.Lent.{all_below_end, is_some_lent, name_is, one_at, one_below, suspended_known, suspended_live}
use Rattle.hy_checked.proofs.machine.Machine.is_lent.Goals as goal

pub waiting-paused-requires : goal.waiting-paused-requires
waiting-paused-requires c =
    let less : c.loop-at.at < length c.args.self.now.suspended_ids.items = omega (arith, c.loop-at-test.true) in
    suspended_live c.args.object.now c.args.self.now c.requires.state c.loop-at.at c.index-suspended_id.result.now c.requires.simulates
    (one_at c.args.self.now.suspended_ids.items c.loop-at.at c.index-suspended_id.result.now less c.index-suspended_id.ensures)

pub known_fun-its-requires : goal.known_fun-its-requires
known_fun-its-requires c =
    let less : c.loop-at.at < length c.args.self.now.suspended_ids.items = omega (arith, c.loop-at-test.true) in
    suspended_known c.args.object.now c.args.self.now c.requires.state c.loop-at.at c.index-suspended_id.result.now c.waiting-paused.result
    c.requires.simulates (one_at c.args.self.now.suspended_ids.items c.loop-at.at c.index-suspended_id.result.now less c.index-suspended_id.ensures)
    c.waiting-paused.ensures

pub returns-then-was_lent : goal.returns-then-was_lent
returns-then-was_lent c = λ s st this e.
    let less : c.loop-at.at < length c.args.self.now.suspended_ids.items = omega (arith, c.loop-at-test.true) in
    is_some_lent c.args.object.now c.args.self.now c.args.fun.now c.known_fun-its.result.now c.index-suspended_id.result.now c.waiting-paused.result
    c.in-Some.name c.loop-at.at c.was_lent.result c.requires.fun_is c.known_fun-its.ensures c.was_lent.ensures c.if-was_lent.true
    (one_at c.args.self.now.suspended_ids.items c.loop-at.at c.index-suspended_id.result.now less c.index-suspended_id.ensures) c.waiting-paused.ensures s
    st this (name_is c.args.object.now c.args.self.now s c.args.slot c.in-Some.name this c.slot.result st c.slot.ensures (sym c.in-Some.ensures) e)

pub loop-at-preserved : goal.loop-at-preserved
loop-at-preserved c =
    let less : c.loop-at.at < length c.args.self.now.suspended_ids.items = omega (arith, c.loop-at-test.true) in
    one_below c.args.object.now c.args.self.now c.args.fun.now c.known_fun-its.result.now c.index-suspended_id.result.now c.waiting-paused.result
    c.in-Some.name c.loop-at.at c.was_lent.result c.requires.fun_is c.known_fun-its.ensures c.was_lent.ensures c.if-was_lent.false
    (one_at c.args.self.now.suspended_ids.items c.loop-at.at c.index-suspended_id.result.now less c.index-suspended_id.ensures) c.waiting-paused.ensures
    c.loop-at.invariant

pub returns : goal.returns
returns c = λ s st this e.
    let le : length c.args.self.now.suspended_ids.items ≤ c.loop-at.at = omega (arith, c.loop-at-test.false) in
    all_below_end c.args.object.now c.args.self.now c.in-Some.name c.loop-at.at le c.loop-at.invariant s st this
    (name_is c.args.object.now c.args.self.now s c.args.slot c.in-Some.name this c.slot.result st c.slot.ensures (sym c.in-Some.ensures) e)
