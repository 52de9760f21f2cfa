use Rattle.std.proofs.Common.{◌∙◌}
use Rattle.hy_base.specs.declared.refusal.Rule.TheVariants.{T5}
use Rattle.hy_check.specs.Noted.{after}
use Rattle.hy_check.specs.Refusals.{when}
use Rattle.hy_check.proofs.returns.check_variant.Goals as goal

pub returns : goal.returns
returns c source = c.meet_when.ensures ∙ (λ i. after (when (c.is_without_return.ensures source i) T5 (c.head.ensures i)) c.args.first)
