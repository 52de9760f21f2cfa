use Rattle.hy_object.specs.Formats.{Number}
use Rattle.hy_object.proofs.Runs.{field_reads}
use Rattle.hy_object.proofs.reading.number.Goals as goal

pub returns : goal.returns
returns c = field_reads (Number c.args.low c.args.high) (λ x. x.0) (λ x. x.1.now) c.args.bytes.now c.number_in.result c.ok_or.result c.number_in.ensures
    c.ok_or.ensures.value
