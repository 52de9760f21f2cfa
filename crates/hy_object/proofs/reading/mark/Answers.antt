use Rattle.std.proofs.lemmas.Bool.Decides.{Decides-eqb}
use Rattle.std.proofs.lemmas.Slice.Eq.{strip_prefix_is}
use Rattle.hy_object.specs.Formats.{Mark}
use Rattle.hy_object.proofs.Runs.{field_reads}
use Rattle.hy_object.proofs.Marks.{mark_found}
use Rattle.hy_object.proofs.reading.mark.Goals as goal

pub returns : goal.returns
returns c =
    let found = strip_prefix_is Decides-eqb c.args.bytes.now c.args.mark.now c.strip_prefix.result c.strip_prefix.ensures.cases in
    field_reads (Mark c.args.mark.now) (λ x. tt) (λ x. x.now) c.args.bytes.now c.strip_prefix.result c.ok_or.result
    (mark_found c.args.mark.now c.args.bytes.now c.strip_prefix.result found) c.ok_or.ensures.value
