use Rattle.std.proofs.Common.{◌∙◌, refl, sym}
use Rattle.hy_object.specs.declared.instr.Instr.TheVariants as instr
use Rattle.hy_object.specs.Checks.{take_turn}
use Rattle.hy_object.specs.Controls.{call, start}
use Rattle.hy_object.specs.States.{Called}
use Rattle.hy_store.proofs.Rows.{nth_get}
use Rattle.hy_store.specs.Executes.{MayRunOut}
use Rattle.hy_checked.proofs.Calling.{call_is, slots_fit}
use Rattle.hy_checked.proofs.Known.{represents_fun}
use Rattle.hy_checked.proofs.Lifting.{answers_as, told_stuck}
use Rattle.hy_checked.proofs.machine.Machine.call.Goals as goal

pub returns-in_err-reach : goal.returns-in_err-reach
returns-in_err-reach c =
    told_stuck MayRunOut c.args.object.now c.args.self.now _ _ _ (λ s. call c.args.object.now s c.args.number c.args.slot c.args.word)
    c.from_residual.ensures.1
    (record { number = refl; place = refl; counts = refl }) (λ s st.
    call_is c.args.object.now s c.args.number c.args.slot c.args.word c.known_fun-callee.result.now _ c.known_fun-callee.ensures
    (c.in_err-reach.ensures.checks st.ghosts s (represents_fun c.args.object.now c.args.self.now s c.args.fun.now st c.requires.fun_is)
    (λ x. take_turn s (λ t. start t c.args.number c.known_fun-callee.result.now c.args.slot x.range (Called c.args.word)))))

pub start-requires : goal.start-requires
start-requires c = record {
  instr = instr.Call c.args.number c.args.slot c.args.word;
  here = c.requires;
  callee_is = sym (nth_get c.args.object.now.funs c.args.number) ∙ sym c.known_fun-callee.ensures;
  reached = c.in_ok-reach.ensures.reached;
  slots = slots_fit c.args.object.now c.args.self.now c.args.fun.now c.known_fun-callee.result.now _ c.args.slot c.args.word c.requires
      (c.in_ok-reach.ensures.checks c.requires.simulates.ghosts c.requires.state
      (represents_fun c.args.object.now c.args.self.now c.requires.state c.args.fun.now c.requires.simulates c.requires.fun_is) (λ x. c.requires.state));
  into = λ slot h. cc;
}

pub returns : goal.returns
returns c = answers_as MayRunOut c.args.object.now c.args.self.now c.start.new.self c.start.result _
    (λ s. call c.args.object.now s c.args.number c.args.slot c.args.word) (λ s st.
    call_is c.args.object.now s c.args.number c.args.slot c.args.word c.known_fun-callee.result.now _ c.known_fun-callee.ensures
    (c.in_ok-reach.ensures.checks st.ghosts s (represents_fun c.args.object.now c.args.self.now s c.args.fun.now st c.requires.fun_is)
    (λ x. take_turn s (λ t. start t c.args.number c.known_fun-callee.result.now c.args.slot x.range (Called c.args.word))))) c.start.ensures
