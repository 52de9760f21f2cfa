use Rattle.std.proofs.Common.{refl}
use Rattle.hy_driver.specs.Course.{no_command}
use Rattle.hy_driver.proofs.Ways.{may_answer_as}
use Rattle.hy_driver.proofs.Worded.{run_as, exec_as}
use Rattle.hy_driver.proofs.top.carry_out.Goals as goal

pub returns-in-Ok-Run-clause-way : goal.returns-in-Ok-Run-clause-way
returns-in-Ok-Run-clause-way g c = c.run_file.ensures.way _ (run_as (rw c.in-Ok-Run.field-0-is at c.in-Ok-Run.ensures.command) c.word_at.ensures)

pub returns-in-Ok-Exec-clause-way : goal.returns-in-Ok-Exec-clause-way
returns-in-Ok-Exec-clause-way g c =
    c.exec_file.ensures.way _ (exec_as (rw c.in-Ok-Exec.field-0-is at c.in-Ok-Exec.ensures.command) c.word_at-in-Ok-Exec.ensures)

pub returns-in-Err-clause-way : goal.returns-in-Err-clause-way
returns-in-Err-clause-way g c =
    may_answer_as c.bare.ensures (no_command c.in-Err.ensures.usage refl (record { input_faults = refl; out_faults = refl; input = refl; out = refl }))
