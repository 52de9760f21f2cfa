use Rattle.std.proofs.Common.{◌∙◌}
use Rattle.std.proofs.lemmas.Bool.{ne_eqb}
use Rattle.std.proofs.Common.{length}
use Rattle.hy_signatures.proofs.CalledNames.{not_one}
use Rattle.hy_signatures.proofs.called.is_one_unlabelled.Goals as goal

pub returns-else-args-eq1 : goal.returns-else-args-eq1
returns-else-args-eq1 c = ne_eqb (length c.args.args.now) 1 c.if-args-eq1.false ∙ not_one c.args.args.now c.if-args-eq1.false
