use Rattle.std.proofs.Common.{sym, ◌∙◌}
use Rattle.hy_object.proofs.Steps.{form_above}
use Rattle.hy_object.proofs.form.Form.at.Goals as goal

pub returns : goal.returns
returns c = c.copied.ensures ∙ c.at.ensures ∙ sym (form_above c.args.number c.if-number-eq0.false)
