use Rattle.hy_front.proofs.Lists.{no_call}
use Rattle.hy_front.proofs.forms.only_call.Goals as goal

pub returns-then-steps-ne1 : goal.returns-then-steps-ne1
returns-then-steps-ne1 c = no_call c.args.steps.now c.if-steps-ne1.true
