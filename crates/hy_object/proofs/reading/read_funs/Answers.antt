use Rattle.std.proofs.Common.{ap}
use Rattle.std.proofs.lemmas.Result.{err_from_is_err_and}
use Rattle.hy_object.specs.Formats.{one_fun, fun_format}
use Rattle.hy_object.proofs.Runs.{goes_on, passes}
use Rattle.hy_object.proofs.reading.read_funs.Goals as goal

pub returns-in_err-fun : goal.returns-in_err-fun
returns-in_err-fun c =
    let p = err_from_is_err_and c.from_residual.result c.from_residual.ensures.1 in
    rw (p.1, p.2) (passes (one_fun c.args.span_count c.args.size) (fun_format c.args.span_count c.args.size c.most.result) c.args.size c.loop.counter
    c.loop.funs c.args.bytes.now c.loop.rest.now
    c.in_err-fun.field-0.0 c.loop-test.true c.loop.invariant (ap (λ m. fun_format c.args.span_count c.args.size m) c.most.ensures) c.in_err-fun.ensures)

pub loop-preserved : goal.loop-preserved
loop-preserved c =
    goes_on (one_fun c.args.span_count c.args.size) c.args.size c.loop.counter c.loop.funs c.push.new.self c.in_ok-fun.fun c.args.bytes.now c.loop.rest.now
    c.in_ok-fun.behind.now c.loop-test.true c.loop.invariant
    (rw c.most.ensures at c.in_ok-fun.ensures) c.in_ok-push.ensures.ok
