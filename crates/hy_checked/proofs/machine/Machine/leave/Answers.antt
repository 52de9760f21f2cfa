use Rattle.std.proofs.Common.{Some, Err, refl, subst, sym}
use Rattle.hy_base.specs.declared.run.End.{End}
use Rattle.hy_object.specs.declared.instr.Instr.TheVariants as instr
use Rattle.hy_object.specs.Controls.{leave}
use Rattle.hy_store.specs.declared.halt.Halt.{Halt}
use Rattle.hy_store.specs.declared.halt.Halt.TheVariants as halt
use Rattle.hy_store.specs.Switches.{StoreSwitches, Returned, Waits}
use Rattle.hy_store.specs.Executes.{MayRunOut}
use Rattle.hy_checked.specs.Executes.{MachineExecutes}
use Rattle.hy_checked.proofs.Calling.{caller_live, next_there, passes_halts, returned, waits_so}
use Rattle.hy_checked.proofs.Pausing.{now_live}
use Rattle.hy_checked.proofs.machine.Machine.leave.Goals as goal

pub caller-requires : goal.caller-requires
caller-requires c = now_live c.args.object.now c.args.self.now c.requires.state c.requires.simulates

pub waiting-waits-requires : goal.waiting-waits-requires
waiting-waits-requires c = caller_live c.args.object.now c.args.self.now c.requires.state c.requires.simulates c.in-Some.caller c.in-Some.ensures

pub known_fun-next-requires : goal.known_fun-next-requires
known_fun-next-requires c =
    next_there c.args.object.now c.args.self.now c.args.fun.now (instr.Return c.args.word) c.in-Some.caller c.waiting-waits.result c.requires
    c.in-Some.ensures c.waiting-waits.ensures

pub end-requires : goal.end-requires
end-requires c = now_live c.args.object.now c.args.self.now c.requires.state c.requires.simulates

pub returns-in-Ok : goal.returns-in-Ok
returns-in-Ok c =
    returned c.args.object.now c.args.self.now _ c.args.fun.now c.known_fun-next.result.now c.in-Some.caller c.waiting-waits.result
    (λ s. leave s c.args.word) c.requires.fun_is c.known_fun-next.ensures c.in-Some.ensures c.waiting-waits.ensures c.in-Ok.ensures
    (record { number = refl; place = refl; left = refl; running = refl }) c.have_own_ids.ensures c.end.ensures.left refl

pub returns-in-Err-Ended : goal.returns-in-Err-Ended
returns-in-Err-Ended c =
    subst (λ (e : End). MachineExecutes MayRunOut c.args.object.now c.args.self.now (record c.args.self.now { store = c.leave.new.self }) (Err (halt.Ended e))
    (λ s. leave s c.args.word)) (sym c.in-Err-Ended.end-is) (
    passes_halts c.args.object.now c.args.self.now (record c.args.self.now { store = c.leave.new.self }) c.args.fun.now c.known_fun-next.result.now
    c.leave.new.self (halt.Ended c.in-Err-Ended.end) (Waits (Some c.waiting-waits.result.frame) c.known_fun-next.result.now) Returned
    (λ s. leave s c.args.word) c.requires.fun_is
    (subst (λ (h : Halt). StoreSwitches c.args.fun.now c.known_fun-next.result.now c.args.self.now.store c.leave.new.self (Err h)
    (Waits (Some c.waiting-waits.result.frame) c.known_fun-next.result.now) Returned (λ s. leave s c.args.word)) c.in-Err-Ended.field-0-is
    c.in-Err-Ended.ensures)
    (λ s st. waits_so c.args.object.now c.args.self.now s st c.in-Some.caller c.waiting-waits.result c.known_fun-next.result.now c.in-Some.ensures
    c.waiting-waits.ensures c.known_fun-next.ensures) (λ e h. refl) (λ no. absurd (no c.in-Err-Ended.end refl)))
