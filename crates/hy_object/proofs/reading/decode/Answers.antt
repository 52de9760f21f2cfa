use Rattle.std.proofs.Common.{◌-◌, length, Ok, Err}
use Rattle.hy_object.specs.declared.object.ObjectFault.TheVariants.{Bad}
use Rattle.hy_object.proofs.Spelled.{left_within, run_object, run_bad, gives, refuses}
use Rattle.hy_object.proofs.reading.decode.Goals as goal

pub overflow_sub-result : goal.overflow_sub-result
overflow_sub-result c = left_within c.args.bytes.now c.in-Err-At.left (rw c.in-Err-At.field-0-is at c.in-Err-At.ensures)

pub returns-in-Ok-clause-exact : goal.returns-in-Ok-clause-exact
returns-in-Ok-clause-exact c = run_object c.args.bytes.now c.in-Ok.object c.in-Ok.ensures

pub returns-in-Ok-clause-only : goal.returns-in-Ok-clause-only
returns-in-Ok-clause-only c = gives c.args.bytes.now (Ok c.in-Ok.object) (run_object c.args.bytes.now c.in-Ok.object c.in-Ok.ensures)

pub returns-in-Ok-clause-place : goal.returns-in-Ok-clause-place
returns-in-Ok-clause-place c = refuses c.args.bytes.now (Ok c.in-Ok.object) (run_object c.args.bytes.now c.in-Ok.object c.in-Ok.ensures)

pub returns-in-Err-At-clause-exact : goal.returns-in-Err-At-clause-exact
returns-in-Err-At-clause-exact c = run_bad c.args.bytes.now c.in-Err-At.left (rw c.in-Err-At.field-0-is at c.in-Err-At.ensures)

pub returns-in-Err-At-clause-only : goal.returns-in-Err-At-clause-only
returns-in-Err-At-clause-only c =
    gives c.args.bytes.now (Err (Bad (length c.args.bytes.now - c.in-Err-At.left)))
    (run_bad c.args.bytes.now c.in-Err-At.left (rw c.in-Err-At.field-0-is at c.in-Err-At.ensures))

pub returns-in-Err-At-clause-place : goal.returns-in-Err-At-clause-place
returns-in-Err-At-clause-place c =
    refuses c.args.bytes.now (Err (Bad (length c.args.bytes.now - c.in-Err-At.left)))
    (run_bad c.args.bytes.now c.in-Err-At.left (rw c.in-Err-At.field-0-is at c.in-Err-At.ensures))
