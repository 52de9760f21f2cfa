use Rattle.std.proofs.Common.{◌≡◌, IfOk, ◌∙◌, subst}
use Rattle.hy_driver.specs.Lower.{variable as variable_at}
use Rattle.hy_driver.proofs.Extends.{placed, not_placed}
use Rattle.hy_driver.proofs.lower.word_of.Goals as goal

pub returns-in-Some : goal.returns-in-Some
returns-in-Some c =
    subst (λ place. IfOk c.variable.result (λ word. word ≡ variable_at place))
    (placed c.args.name.now c.args.scope.now c.in-Some.place c.in-Some.ensures.first) c.variable.ensures

pub returns-in-None : goal.returns-in-None
returns-in-None c =
    subst (λ place. IfOk c.variable-in-None.result (λ word. word ≡ variable_at place)) (c.len.ensures.count
    ∙ not_placed c.args.name.now c.args.scope.now c.in-None.ensures.first) c.variable-in-None.ensures
