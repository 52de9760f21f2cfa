use Rattle.std.proofs.Common.{refl, ◌∙◌}
use Rattle.hy_machine.proofs.Walking.{at_place, walked_none, walked_more, halts, runs_off}
use Rattle.hy_machine.proofs.machine.Machine.run_to_halt.Goals as goal

pub loop-self-init : goal.loop-self-init
loop-self-init g c = (walked_none c.args.object.now c.args.self.now _, refl, refl)

pub returns-in-Err-clause-leads : goal.returns-in-Err-clause-leads
returns-in-Err-clause-leads g c =
    halts c.args.object.now c.args.self.now c.loop-self.self c.execute.new.self _ _ _ _ c.in-Err.halt c.loop-self.invariant.0
    (at_place c.args.object.now c.args.instrs.now c.loop-self.self.place _ c.requires.main c.loop-self-test.true) c.in-Err.ensures.executes

pub loop-self-preserved : goal.loop-self-preserved
loop-self-preserved g c = (
  walked_more c.args.object.now c.args.self.now c.loop-self.self c.execute.new.self _ _ _ _ c.loop-self.invariant.0
      (at_place c.args.object.now c.args.instrs.now c.loop-self.self.place _ c.requires.main c.loop-self-test.true) c.in_default.ensures.executes,
  c.in_default.ensures.counts ∙ c.loop-self.invariant.1,
  c.in_default.ensures.faults ∙ c.loop-self.invariant.2,
)

pub returns-clause-leads : goal.returns-clause-leads
returns-clause-leads g c =
    runs_off c.args.object.now c.args.self.now c.loop-self.self _ _ c.args.instrs.now c.loop-self.invariant.0 c.requires.main c.loop-self-test.false
