use Rattle.std.proofs.Common.{◌∙◌, ap}
use Rattle.std.proofs.lemmas.Int.{rem_is}
use Rattle.hy_base.specs.Numbers.{fitting}
use Rattle.hy_base.proofs.numbers.IntegerType.remainder.Goals as goal
use Rattle.hy_base.proofs.Remainders.{given_there}
use mir.Syntax.{w128}
use mir.Val.{of_z}

pub returns-then-y-neminus1 : goal.returns-then-y-neminus1
returns-then-y-neminus1 c =
    c.fitting.ensures ∙ ap (fitting c.args.self) (rem_is w128 c.args.x c.args.y c.ranges.x c.ranges.y)
    ∙ given_there c.args.self c.args.x c.args.y _ (λ e. c.if-y-eq0.false (ap (of_z w128) e)) (λ e. c.if-y-neminus1.true (ap (of_z w128) e))
