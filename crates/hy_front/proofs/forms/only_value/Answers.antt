use Rattle.hy_front.proofs.Lists.{no_value}
use Rattle.hy_front.proofs.forms.only_value.Goals as goal

pub returns-then-args-ne1 : goal.returns-then-args-ne1
returns-then-args-ne1 c = no_value c.args.args.now c.if-args-ne1.true
