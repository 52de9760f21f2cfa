use Rattle.hy_driver.proofs.ThisRun.{ended_is}
use Rattle.hy_driver.proofs.Ways.{follows_end, follows_cut}
use Rattle.hy_driver.proofs.top.run_compiled.Goals as goal

pub returns-in-Ok : goal.returns-in-Ok
returns-in-Ok g c = follows_end _ _ _ _ c.args.compiled c.in-Ok.ending _ c.requires.compiled
    (record {
      stopped = record { faults = c.in-Ok.ensures.faults; ran = c.in-Ok.ensures.ended; no_asks = λ e. c.in-Ok.ensures.no_asks (ended_is e) };
    }) c.end.ensures

pub returns : goal.returns
returns g c = follows_cut _ _ _ _ c.args.compiled c.in-Err.fault _ c.requires.compiled
    (record { cut_short = record { faults = c.in-Err.ensures.faults; cut = c.in-Err.ensures.cut_off }; no_input = c.in-Err.ensures.no_input })
    c.cut_off.ensures
