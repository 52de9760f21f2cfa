use Rattle.std.proofs.Common.{None, refl}
use Rattle.hy_object.specs.declared.instr.Instr.TheVariants as instr
use Rattle.hy_object.specs.Controls.{yield}
use Rattle.hy_store.specs.Switches.{Waits}
use Rattle.hy_checked.proofs.Calling.{none_waits}
use Rattle.hy_checked.proofs.SuspendedIds.{none_takes, yield_halts}
use Rattle.hy_checked.proofs.machine.Machine.hand_out_of_main.Goals as goal

pub unreachable-requires : goal.unreachable-requires
unreachable-requires c =
    none_takes c.args.object.now c.args.self.now c.args.fun.now c.args.fun.now c.hand_out.new.self (instr.Yield c.args.slot) (λ s. yield s c.args.slot)
    c.requires.here c.requires.none c.in-Ok.ensures

pub returns : goal.returns
returns c = yield_halts c.args.object.now c.args.self.now _ c.args.fun.now c.args.fun.now c.hand_out.new.self c.args.slot c.in-Err.halt
    (Waits None c.args.fun.now) c.requires.here.fun_is c.in-Err.ensures
    (λ s st. none_waits c.args.object.now c.args.self.now s st c.requires.none) (record { number = refl; place = refl; counts = refl })
