use Rattle.std.proofs.Common.{◌≡◌, ◌∙◌, ◌-◌, suc, refl, arith}
use Rattle.hy_runs.specs.Runs.{told}
use Rattle.hy_runs.proofs.Coming.{spent_at_once}
use Rattle.hy_checked.proofs.Whole.{keeps_promise, out_of_steps, walks_first}
use Rattle.hy_checked.proofs.Settling.{still_walks}
use Rattle.hy_checked.proofs.runs.exec.Goals as goal

pub returns-then-n-eq0-clause-ended : goal.returns-then-n-eq0-clause-ended
returns-then-n-eq0-clause-ended g c = spent_at_once c.args.object.now c.args.n _ _ c.if-n-eq0.true refl

pub loop-init : goal.loop-init
loop-init g c =
    let e : c.args.n ≡ suc (c.args.n - 1) = omega (arith, c.if-n-eq0.false) in (
      walks_first c.args.object.now c.args.n (c.args.n - 1) _ c.in-Ok.lines.ended c.in-Ok.machine e (c.in-Ok.ensures.0 (c.args.n - 1) e) c.in-Ok.ensures.1,
      refl,
      refl,
    )

pub returns-in-Err-clause-ended : goal.returns-in-Err-clause-ended
returns-in-Err-clause-ended g c =
    (keeps_promise c.cut_runs_agree.ensures c.args.object.now c.args.n (told (g.I.Source.tells c.args.input.now) (g.K.Sink.tells c.args.out.now))
    (told (g.I.Source.tells c.step.new.input) (g.K.Sink.tells c.step.new.out)) c.step.new.lines.ended c.settle.new.self c.step.new.self c.in-Err.halt
    c.ending_of.result c.ending_of.ensures
    (c.in-Err.ensures.advances.does c.args.n (told (g.I.Source.tells c.args.input.now) (g.K.Sink.tells c.args.out.now))
    (still_walks c.args.object.now c.args.n (told (g.I.Source.tells c.args.input.now) (g.K.Sink.tells c.args.out.now))
    (told (g.I.Source.tells c.loop.input) (g.K.Sink.tells c.loop.out)) c.loop.lines.ended c.loop.machine c.settle.new.self c.settle.ensures
    c.loop.invariant.0))).0

pub returns-in-Err-clause-cut_off : goal.returns-in-Err-clause-cut_off
returns-in-Err-clause-cut_off g c =
    (keeps_promise c.cut_runs_agree.ensures c.args.object.now c.args.n (told (g.I.Source.tells c.args.input.now) (g.K.Sink.tells c.args.out.now))
    (told (g.I.Source.tells c.step.new.input) (g.K.Sink.tells c.step.new.out)) c.step.new.lines.ended c.settle.new.self c.step.new.self c.in-Err.halt
    c.ending_of.result c.ending_of.ensures
    (c.in-Err.ensures.advances.does c.args.n (told (g.I.Source.tells c.args.input.now) (g.K.Sink.tells c.args.out.now))
    (still_walks c.args.object.now c.args.n (told (g.I.Source.tells c.args.input.now) (g.K.Sink.tells c.args.out.now))
    (told (g.I.Source.tells c.loop.input) (g.K.Sink.tells c.loop.out)) c.loop.lines.ended c.loop.machine c.settle.new.self c.settle.ensures
    c.loop.invariant.0))).1

pub returns-in-Err-clause-no_asks : goal.returns-in-Err-clause-no_asks
returns-in-Err-clause-no_asks g c =
    (keeps_promise c.cut_runs_agree.ensures c.args.object.now c.args.n (told (g.I.Source.tells c.args.input.now) (g.K.Sink.tells c.args.out.now))
    (told (g.I.Source.tells c.step.new.input) (g.K.Sink.tells c.step.new.out)) c.step.new.lines.ended c.settle.new.self c.step.new.self c.in-Err.halt
    c.ending_of.result c.ending_of.ensures
    (c.in-Err.ensures.advances.does c.args.n (told (g.I.Source.tells c.args.input.now) (g.K.Sink.tells c.args.out.now))
    (still_walks c.args.object.now c.args.n (told (g.I.Source.tells c.args.input.now) (g.K.Sink.tells c.args.out.now))
    (told (g.I.Source.tells c.loop.input) (g.K.Sink.tells c.loop.out)) c.loop.lines.ended c.loop.machine c.settle.new.self c.settle.ensures
    c.loop.invariant.0))).2

pub returns-clause-cut_off : goal.returns-clause-cut_off
returns-clause-cut_off g c =
    out_of_steps c.cut_runs_agree.ensures c.args.object.now c.args.n (told (g.I.Source.tells c.args.input.now) (g.K.Sink.tells c.args.out.now))
    (told (g.I.Source.tells c.loop.input) (g.K.Sink.tells c.loop.out)) c.loop.lines.ended c.loop.machine c.loop.invariant.0

pub step-requires-clause-simulates : goal.step-requires-clause-simulates
step-requires-clause-simulates g c = let w = c.loop.invariant.0 in (w.state, c.settle.ensures c.args.object.now w.state w.simulates)

pub loop-preserved : goal.loop-preserved
loop-preserved g c = (
  c.in_default-step.ensures.advances.does c.args.n (told (g.I.Source.tells c.args.input.now) (g.K.Sink.tells c.args.out.now))
      (still_walks c.args.object.now c.args.n (told (g.I.Source.tells c.args.input.now) (g.K.Sink.tells c.args.out.now))
      (told (g.I.Source.tells c.loop.input) (g.K.Sink.tells c.loop.out)) c.loop.lines.ended c.loop.machine c.settle.new.self c.settle.ensures
      c.loop.invariant.0),
  c.in_default-step.ensures.faults.0 ∙ c.loop.invariant.1,
  c.in_default-step.ensures.faults.1 ∙ c.loop.invariant.2,
)
