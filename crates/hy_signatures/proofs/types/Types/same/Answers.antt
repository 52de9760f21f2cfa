use Rattle.std.proofs.Common.{◌∙◌}
use Rattle.hy_signatures.proofs.Equality.{same_numbers}
use Rattle.hy_signatures.proofs.types.Types.same.Goals as goal

pub returns : goal.returns
returns c = c.eq.ensures ∙ same_numbers c.args.self.now c.args.one c.args.other (c.get.ensures.once c.args.other c.requires.other)
