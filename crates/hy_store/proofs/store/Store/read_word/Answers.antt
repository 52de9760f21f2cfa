use Rattle.std.proofs.Common.{◌<◌, ◌∙◌, ap, sym, arith}
use Rattle.hy_object.specs.declared.stuck.Kind.TheVariants as kind
use Rattle.hy_object.specs.Checks.{check, may_read, word_in}
use Rattle.hy_object.specs.States.{window}
use Rattle.hy_store.specs.Held.{abstract_cell}
use Rattle.hy_store.proofs.Wholes.{cell_is}
use Rattle.hy_store.proofs.Following.{handed, checked}
use Rattle.hy_store.proofs.store.Store.read_word.Goals as goal

pub returns-in_err-reach : goal.returns-in_err-reach
returns-in_err-reach c =
    λ g s represents go. c.in_err-reach.ensures.checks g s represents (λ x. check s kind.Access (may_read s x) (word_in s (window s.cells x.range 0) go))
    ∙ handed s _ _ _ c.from_residual.ensures.1

pub returns-in_err-check : goal.returns-in_err-check
returns-in_err-check c = λ g s represents go.
    c.in_ok-reach.ensures.checks g s represents (λ x. check s kind.Access (may_read s x) (word_in s (window s.cells x.range 0) go))
    ∙ checked s kind.Access _ _ _ _ (c.may_read.ensures s g.name represents.opened.told) (c.in_err-check.ensures s _)
    ∙ handed s _ _ _ c.from_residual-in_err-check.ensures.1

pub returns : goal.returns
returns c = λ g s represents go.
    let reached = c.in_ok-reach.ensures.reached in
    let below : 0 < c.in_ok-reach.reach.range.len = omega (arith, reached.len) in
    let cell = cell_is g c.args.self.now c.args.fun.now s represents c.in_ok-reach.reach.range c.cells.result.now c.cells.ensures 0 below in
    c.in_ok-reach.ensures.checks g s represents (λ x. check s kind.Access (may_read s x) (word_in s (window s.cells x.range 0) go))
    ∙ checked s kind.Access _ _ _ _ (c.may_read.ensures s g.name represents.opened.told) (c.in_ok-check.ensures s _)
    ∙ ap (λ one. word_in s one go) (cell ∙ ap abstract_cell (sym c.cell_at.ensures)) ∙ c.word_in.ensures s go
