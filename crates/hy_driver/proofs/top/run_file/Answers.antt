use Rattle.std.proofs.Common.{refl, ◌∙◌, Err}
use Rattle.hy_driver.specs.Course.{loaded}
use Rattle.hy_driver.proofs.Ways.{not_loaded_so}
use Rattle.hy_driver.proofs.top.run_file.Goals as goal

pub returns-in-Ok-clause-way : goal.returns-in-Ok-clause-way
returns-in-Ok-clause-way g c = λ words command. loaded command (rw c.deref.ensures.value c.in-Ok.ensures.bytes) c.in-Ok.ensures.faults c.run_source.ensures

pub returns-in-Err-clause-way : goal.returns-in-Err-clause-way
returns-in-Err-clause-way g c =
    λ words command.
    not_loaded_so words _ _ _ _ _ c.in-Err.fault _ command (λ e. c.load.ensures.cause (c.in-Err.is ∙ (λ i. Err (e i)))) c.in-Err.ensures.faults
    (record { input_faults = refl; out_faults = refl; input = refl; out = refl }) c.not_loaded.ensures
