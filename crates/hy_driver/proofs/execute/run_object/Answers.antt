use Rattle.hy_driver.proofs.Ways.{file_stops, file_cut}
use Rattle.hy_driver.proofs.execute.run_object.Goals as goal

pub returns-in-Ok : goal.returns-in-Ok
returns-in-Ok g c = file_stops _ _ _ _ _ c.args.object _ _ _ c.requires.file (record {
  faults = c.in-Ok.ensures.faults;
  ran = c.in-Ok.ensures.ended;
  no_asks = c.in-Ok.ensures.no_asks;
}) c.stop.ensures

pub returns : goal.returns
returns g c = file_cut _ _ _ _ _ c.args.object c.in-Err.fault _ c.requires.file
    (record { faults = c.in-Err.ensures.faults; cut = c.in-Err.ensures.cut_off }) c.cut_off.ensures
