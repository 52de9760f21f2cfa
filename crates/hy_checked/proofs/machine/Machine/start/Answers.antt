use Rattle.std.proofs.Common.{◌<◌, ◌+◌, ◌^◌, arith}
use Rattle.hy_checked.proofs.Calling.{lent_fits, other_block, starts}
use Rattle.hy_checked.proofs.Known.{place_fits}
use Rattle.hy_checked.proofs.Pausing.{now_live}
use Rattle.hy_checked.proofs.machine.Machine.start.Goals as goal

pub go-requires : goal.go-requires
go-requires c = now_live c.args.object.now c.args.self.now c.requires.here.state c.requires.here.simulates

pub overflow_add-self : goal.overflow_add-self
overflow_add-self c =
    let fits : c.args.self.now.place + 1 < 2 ^ 32 = place_fits c.args.object.now c.args.self.now c.args.fun.now c.requires.instr c.requires.here in
    omega (arith, fits)

pub returns : goal.returns
returns c = starts c.args.object.now c.args.self.now c.start-2.new.self c.args.fun.now c.args.callee.now c.args.what c.requires c.in_ok-act.act
    c.go.new.self _ c.go.ensures c.in_ok-act.ensures.started c.in_ok-act.ensures.new_id c.in_default.ensures.represented c.if-self-eq0.false

pub start-requires-2-clause-other : goal.start-requires-2-clause-other
start-requires-2-clause-other c = other_block c.args.object.now c.args.self.now c.args.fun.now c.args.callee.now c.args.what c.requires

pub start-requires-2-clause-lent : goal.start-requires-2-clause-lent
start-requires-2-clause-lent c = lent_fits c.args.object.now c.args.self.now c.args.fun.now c.args.callee.now c.args.what c.requires
