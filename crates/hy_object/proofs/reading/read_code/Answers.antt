use Rattle.hy_object.specs.Formats.{Code, one_instr}
use Rattle.hy_object.proofs.Runs.{run_some, run_none, goes_on, stops}
use Rattle.hy_object.proofs.reading.read_code.Goals as goal

pub returns-in_default : goal.returns-in_default
returns-in_default c =
    stops (one_instr c.args.bounds.now) c.args.bounds.now.places c.loop-i.i _ c.loop-i.code c.args.bytes.now c.loop-i.rest.now c.loop-i-test.true
    c.loop-i.invariant (λ next. run_none (Code c.args.bounds.now _) next _ c.in_default.ensures)

pub loop-i-preserved : goal.loop-i-preserved
loop-i-preserved c =
    goes_on (one_instr c.args.bounds.now) c.args.bounds.now.places c.loop-i.i c.loop-i.code c.push.new.self c.in-Some.instr c.args.bytes.now
    c.loop-i.rest.now c.in-Some.after.now c.loop-i-test.true c.loop-i.invariant
    (λ next. run_some (Code c.args.bounds.now _) next _ _ _ c.in-Some.ensures) c.in_ok-push.ensures.ok
