use Rattle.std.proofs.Common.{refl, ◌<◌, ◌+◌, ◌^◌, arith}
use Rattle.hy_object.specs.Steps.{does}
use Rattle.hy_checked.specs.Instructions.{memory_of}
use Rattle.hy_checked.proofs.Known.{place_fits}
use Rattle.hy_checked.proofs.Lifting.{goes_on, halts}
use Rattle.hy_checked.proofs.machine.Machine.plain.Goals as goal

pub returns-in-Err : goal.returns-in-Err
returns-in-Err c =
    halts (memory_of c.args.instr) c.args.object.now c.args.self.now _ c.args.fun.now c.on_store.new.store c.in-Err.halt
    (λ s. does c.args.object.now s c.args.instr)
    c.requires.here.fun_is c.in-Err.ensures (record { number = refl; place = refl; counts = refl })

pub overflow_add-self : goal.overflow_add-self
overflow_add-self c =
    let fits : c.args.self.now.place + 1 < 2 ^ 32 = place_fits c.args.object.now c.args.self.now c.args.fun.now c.args.instr c.requires.here in
    omega (arith, fits)

pub returns : goal.returns
returns c =
    goes_on c.args.object.now c.args.self.now _ c.args.fun.now
    (λ s. does c.args.object.now s c.args.instr) c.requires.here.fun_is c.in_default.ensures
    (record { number = refl; left = refl; acts = refl; running = refl; suspended_ids = refl }) refl
