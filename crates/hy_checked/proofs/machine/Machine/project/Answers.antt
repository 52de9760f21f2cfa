use Rattle.std.proofs.Common.{◌≡◌, ◌<◌, ◌∙◌, ap, refl, subst, sym}
use Rattle.hy_object.specs.declared.instr.Instr.TheVariants as instr
use Rattle.hy_object.specs.declared.stuck.Kind.TheVariants as kind
use Rattle.hy_object.specs.Checks.{check, is_empty, own_slot, take_turn}
use Rattle.hy_object.specs.Controls.{project, start}
use Rattle.hy_object.specs.States.{Projected}
use Rattle.hy_store.specs.Opened.{abstract_range}
use Rattle.hy_store.specs.Represents.{abstract_slot}
use Rattle.hy_store.proofs.Rows.{nth_get}
use Rattle.hy_store.specs.Executes.{MayRunOut}
use Rattle.hy_checked.proofs.Calling.{project_is, projects_into, slots_fit}
use Rattle.hy_checked.proofs.Known.{represents_fun}
use Rattle.hy_checked.proofs.Lifting.{answers_as, told_stuck}
use Rattle.hy_checked.proofs.machine.Machine.project.Goals as goal

pub returns-in_err-reach : goal.returns-in_err-reach
returns-in_err-reach c =
    told_stuck MayRunOut c.args.object.now c.args.self.now _ _ _ (λ s. project c.args.object.now s c.args.number c.args.slot c.args.word c.args.into)
    c.from_residual.ensures.1 (record { number = refl; place = refl; counts = refl }) (λ s st.
    project_is c.args.object.now s c.args.number c.args.slot c.args.word c.args.into c.known_fun-callee.result.now _ c.known_fun-callee.ensures
    (c.in_err-reach.ensures.checks st.ghosts s (represents_fun c.args.object.now c.args.self.now s c.args.fun.now st c.requires.fun_is)
    (λ x. check s kind.Slot (is_empty (own_slot s c.args.into))
    (take_turn s (λ t. start t c.args.number c.known_fun-callee.result.now c.args.slot x.range (Projected c.args.into))))))

pub start-requires : goal.start-requires
start-requires c = record {
  instr = instr.Project c.args.number c.args.slot c.args.word c.args.into;
  here = c.requires;
  callee_is = sym (nth_get c.args.object.now.funs c.args.number) ∙ sym c.known_fun-callee.ensures;
  reached = c.in_ok-reach.ensures.reached;
  slots = slots_fit c.args.object.now c.args.self.now c.args.fun.now c.known_fun-callee.result.now _ c.args.slot c.args.word c.requires
      (c.in_ok-reach.ensures.checks c.requires.simulates.ghosts c.requires.state
      (represents_fun c.args.object.now c.args.self.now c.requires.state c.args.fun.now c.requires.simulates c.requires.fun_is) (λ x. c.requires.state));
  into = λ slot h. let e : c.args.into ≡ slot = cc in
      subst (λ k. k < c.args.fun.now.slots) e (projects_into c.args.object.now c.args.self.now c.args.fun.now c.args.number c.args.slot c.args.word
      c.args.into c.requires);
}

pub returns-then-is_empty : goal.returns-then-is_empty
returns-then-is_empty c =
    answers_as MayRunOut c.args.object.now c.args.self.now c.start.new.self c.start.result _
    (λ s. project c.args.object.now s c.args.number c.args.slot c.args.word c.args.into) (λ s st.
    let represents = represents_fun c.args.object.now c.args.self.now s c.args.fun.now st c.requires.fun_is in
    project_is c.args.object.now s c.args.number c.args.slot c.args.word c.args.into c.known_fun-callee.result.now _ c.known_fun-callee.ensures
    (c.in_ok-reach.ensures.checks st.ghosts s represents (λ x. check s kind.Slot (is_empty (own_slot s c.args.into))
    (take_turn s (λ t. start t c.args.number c.known_fun-callee.result.now c.args.slot x.range (Projected c.args.into))))
    ∙ ap (λ b. check s kind.Slot b
    (take_turn s (λ t. start t c.args.number c.known_fun-callee.result.now c.args.slot (abstract_range c.in_ok-reach.reach.range)
    (Projected c.args.into)))) (ap is_empty (represents.slots c.args.into ∙ ap abstract_slot (sym c.slot.ensures)) ∙ c.is_empty.ensures
    ∙ c.if-is_empty.true))) c.start.ensures

pub returns : goal.returns
returns c = (
  record { number = refl; place = refl; counts = refl },
  λ s st.
      let represents = represents_fun c.args.object.now c.args.self.now s c.args.fun.now st c.requires.fun_is in
      project_is c.args.object.now s c.args.number c.args.slot c.args.word c.args.into c.known_fun-callee.result.now _ c.known_fun-callee.ensures
      (c.in_ok-reach.ensures.checks st.ghosts s represents (λ x. check s kind.Slot (is_empty (own_slot s c.args.into))
      (take_turn s (λ t. start t c.args.number c.known_fun-callee.result.now c.args.slot x.range (Projected c.args.into))))
      ∙ ap (λ b. check s kind.Slot b
      (take_turn s (λ t. start t c.args.number c.known_fun-callee.result.now c.args.slot (abstract_range c.in_ok-reach.reach.range)
      (Projected c.args.into)))) (ap is_empty (represents.slots c.args.into ∙ ap abstract_slot (sym c.slot.ensures)) ∙ c.is_empty.ensures
      ∙ c.if-is_empty.false)),
)
