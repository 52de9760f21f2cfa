use Rattle.std.proofs.Common.{Ok, Err, refl, ◌<◌, ◌+◌, ◌^◌, arith}
use Rattle.hy_object.specs.declared.instr.Instr.TheVariants as instr
use Rattle.hy_object.specs.Lending.{close}
use Rattle.hy_store.specs.Closes.{close_unless}
use Rattle.hy_store.specs.Executes.{MayRunOut}
use Rattle.hy_checked.proofs.Known.{allowed, place_fits, represented}
use Rattle.hy_checked.proofs.Lent.{close_is}
use Rattle.hy_checked.proofs.Lifting.{answers_as, goes_on, halts}
use Rattle.hy_checked.proofs.machine.Machine.close.Goals as goal

pub close-requires-clause-represented : goal.close-requires-clause-represented
close-requires-clause-represented c = represented c.args.object.now c.args.self.now c.args.fun.now (instr.Close c.args.slot) c.requires

pub close-requires-clause-slot : goal.close-requires-clause-slot
close-requires-clause-slot c = (allowed c.args.object.now c.args.self.now c.args.fun.now (instr.Close c.args.slot) c.requires).0

pub returns-in-Err : goal.returns-in-Err
returns-in-Err c =
    answers_as MayRunOut c.args.object.now c.args.self.now (record c.args.self.now {
      store =
          record c.close.new.self { counts = c.args.self.now.store.counts };
    })
    (Err c.in-Err.halt) (λ s. close_unless s c.args.slot c.is_lent-lent.result) (λ s. close s c.args.slot)
    (λ s st. close_is s c.args.slot c.is_lent-lent.result (c.is_lent-lent.ensures s st))
    (halts MayRunOut c.args.object.now c.args.self.now (record c.args.self.now { store = record c.close.new.self { counts = c.args.self.now.store.counts } })
    c.args.fun.now c.close.new.self c.in-Err.halt (λ s. close_unless s c.args.slot c.is_lent-lent.result) c.requires.fun_is c.in-Err.ensures
    (record { number = refl; place = refl; counts = refl }))

pub overflow_add-self : goal.overflow_add-self
overflow_add-self c =
    let fits : c.args.self.now.place + 1 < 2 ^ 32 = place_fits c.args.object.now c.args.self.now c.args.fun.now (instr.Close c.args.slot) c.requires in
    omega (arith, fits)

pub returns : goal.returns
returns c = answers_as MayRunOut c.args.object.now c.args.self.now (record c.args.self.now { store = c.close.new.self; place = c.args.self.now.place + 1 })
    (Ok tt)
    (λ s. close_unless s c.args.slot c.is_lent-lent.result) (λ s. close s c.args.slot)
    (λ s st. close_is s c.args.slot c.is_lent-lent.result (c.is_lent-lent.ensures s st))
    (goes_on c.args.object.now c.args.self.now (record c.args.self.now { store = c.close.new.self; place = c.args.self.now.place + 1 }) c.args.fun.now
    (λ s. close_unless s c.args.slot c.is_lent-lent.result) c.requires.fun_is c.in_default.ensures
    (record { number = refl; left = refl; acts = refl; running = refl; suspended_ids = refl }) refl)
