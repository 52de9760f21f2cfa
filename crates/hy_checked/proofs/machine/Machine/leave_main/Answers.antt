use Rattle.std.proofs.Common.{None, Err, refl, subst}
use Rattle.hy_object.specs.declared.instr.Instr.TheVariants as instr
use Rattle.hy_object.specs.Controls.{leave}
use Rattle.hy_store.specs.declared.halt.Halt.{Halt}
use Rattle.hy_store.specs.declared.halt.Halt.TheVariants as halt
use Rattle.hy_store.specs.Switches.{StoreSwitches, Returned, Waits}
use Rattle.hy_checked.proofs.Calling.{none_goes_back, none_waits, passes_halts}
use Rattle.hy_checked.proofs.machine.Machine.leave_main.Goals as goal

pub unreachable-requires : goal.unreachable-requires
unreachable-requires c =
    none_goes_back c.args.object.now c.args.self.now c.args.fun.now c.args.fun.now c.leave.new.self (instr.Return c.args.word) (λ s. leave s c.args.word)
    c.requires.here c.requires.none c.in-Ok.ensures

pub returns-in-Err-Ended : goal.returns-in-Err-Ended
returns-in-Err-Ended c =
    passes_halts c.args.object.now c.args.self.now (record c.args.self.now { store = c.leave.new.self }) c.args.fun.now c.args.fun.now c.leave.new.self
    (halt.Ended c.in-Err-Ended.end) (Waits None c.args.fun.now) Returned (λ s. leave s c.args.word) c.requires.here.fun_is
    (subst (λ (h : Halt). StoreSwitches c.args.fun.now c.args.fun.now c.args.self.now.store c.leave.new.self (Err h) (Waits None c.args.fun.now) Returned
    (λ s. leave s c.args.word)) c.in-Err-Ended.field-0-is c.in-Err-Ended.ensures)
    (λ s st. none_waits c.args.object.now c.args.self.now s st c.requires.none) (λ e h. refl) (λ no. absurd (no c.in-Err-Ended.end refl))
