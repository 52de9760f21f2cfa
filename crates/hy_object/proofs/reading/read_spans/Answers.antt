use Rattle.hy_object.specs.Formats.{Range, one_span}
use Rattle.hy_object.proofs.Runs.{run_some, run_none, goes_on, stops}
use Rattle.hy_object.proofs.reading.read_spans.Goals as goal

pub returns-in_default : goal.returns-in_default
returns-in_default c =
    stops one_span c.args.size c.loop.counter _ c.loop.spans c.args.bytes.now c.loop.rest.now c.loop-test.true c.loop.invariant
    (λ next. run_none Range next _ c.in_default.ensures)

pub loop-preserved : goal.loop-preserved
loop-preserved c =
    goes_on one_span c.args.size c.loop.counter c.loop.spans c.push.new.self c.in-Some.span c.args.bytes.now c.loop.rest.now c.in-Some.behind.now
    c.loop-test.true c.loop.invariant
    (λ next. run_some Range next _ _ _ c.in-Some.ensures) c.in_ok-push.ensures.ok
