use Rattle.std.proofs.Common.{◌∙◌, Some, ap, refl, sym, rules}
use Rattle.hy_access.specs.declared.access.Range.{Range}
use Rattle.hy_object.specs.declared.stuck.Kind.TheVariants as kind
use Rattle.hy_object.specs.Checks.{check}
use Rattle.hy_object.specs.Controls.{leaves_none}
use Rattle.hy_store.specs.Opened.{abstract_range}
use Rattle.hy_store.specs.Switches.{Returned, Waits}
use Rattle.hy_store.proofs.Following.{checked}
use Rattle.hy_store.proofs.Returning.{behind_transfer, filled, fills_closed, fills_none, fills_there, fills_words, leads_as, passes_stuck, passes_wanting}
use Rattle.hy_store.proofs.Returning.{words_there}
use Rattle.hy_store.proofs.Storing.{moved_seen}
use Rattle.hy_store.proofs.store.Store.fill.Goals as goal

pub returns-then-not-has_cells : goal.returns-then-not-has_cells
returns-then-not-has_cells c = λ next g s represents waits. let x : Range = c.args.x.range in let y : Range =
    record { block = c.args.caller; from = c.args.to; len = c.args.x.range.len } in
    fills_words s next x c.args.to c.args.caller waits
    ∙ ap (λ t. check s kind.Range t (fills_there s x y))
    (sym (words_there g c.args.self.now c.args.fun.now next s c.args.caller represents waits c.args.to x.len) ∙ sym c.has_cells.ensures.test
    ∙ c.if-not-has_cells.true)

pub returns-in_err-check : goal.returns-in_err-check
returns-in_err-check c = λ next. passes_stuck _ _ _ _ _ _ _ _ _ c.from_residual.ensures.1 (λ g s represents waits. let x : Range = c.args.x.range in
    let y : Range = record { block = c.args.caller; from = c.args.to; len = c.args.x.range.len } in
    fills_words s next x c.args.to c.args.caller waits
    ∙ ap (λ t. check s kind.Range t (fills_there s x y))
    (sym (words_there g c.args.self.now c.args.fun.now next s c.args.caller represents waits c.args.to x.len) ∙ sym c.has_cells.ensures.test
    ∙ c.if-not-has_cells.false)
    ∙ checked s kind.Access _ _ (fills_closed s x y) _ (c.may_write.ensures s g.name represents.opened.told) (c.in_err-check.ensures s _))

pub returns-in_err-check-2 : goal.returns-in_err-check-2
returns-in_err-check-2 c = λ next. passes_stuck _ _ _ _ _ _ _ _ _ c.from_residual-in_err-check-2.ensures.1 (λ g s represents waits. let x : Range =
    c.args.x.range in let y : Range = record { block = c.args.caller; from = c.args.to; len = c.args.x.range.len } in
    fills_words s next x c.args.to c.args.caller waits
    ∙ ap (λ t. check s kind.Range t (fills_there s x y))
    (sym (words_there g c.args.self.now c.args.fun.now next s c.args.caller represents waits c.args.to x.len) ∙ sym c.has_cells.ensures.test
    ∙ c.if-not-has_cells.false)
    ∙ checked s kind.Access _ _ (fills_closed s x y) _ (c.may_write.ensures s g.name represents.opened.told) (c.in_ok-check.ensures s _)
    ∙ checked s kind.Slot _ _ (fills_none s x y) _ (c.is_closed.ensures g s represents) (c.in_err-check-2.ensures s _))

pub returns-in_err-check-3 : goal.returns-in_err-check-3
returns-in_err-check-3 c = λ next. passes_stuck _ _ _ _ _ _ _ _ _ c.from_residual-in_err-check-3.ensures.1 (λ g s represents waits. let x : Range =
    c.args.x.range in let y : Range = record { block = c.args.caller; from = c.args.to; len = c.args.x.range.len } in
    fills_words s next x c.args.to c.args.caller waits
    ∙ ap (λ t. check s kind.Range t (fills_there s x y))
    (sym (words_there g c.args.self.now c.args.fun.now next s c.args.caller represents waits c.args.to x.len) ∙ sym c.has_cells.ensures.test
    ∙ c.if-not-has_cells.false)
    ∙ checked s kind.Access _ _ (fills_closed s x y) _ (c.may_write.ensures s g.name represents.opened.told) (c.in_ok-check.ensures s _)
    ∙ checked s kind.Slot _ _ (fills_none s x y) _ (c.is_closed.ensures g s represents) (c.in_ok-check-2.ensures s _)
    ∙ checked s kind.Lost _ _ (check s kind.Lost (leaves_none s (abstract_range x)) (filled s x y)) _ (c.is_nameless.ensures g s represents)
    (c.in_err-check-3.ensures s _))

pub returns-in_err-check-4 : goal.returns-in_err-check-4
returns-in_err-check-4 c = λ next. passes_stuck _ _ _ _ _ _ _ _ _ c.from_residual-in_err-check-4.ensures.1 (λ g s represents waits. let x : Range =
    c.args.x.range in let y : Range = record { block = c.args.caller; from = c.args.to; len = c.args.x.range.len } in
    fills_words s next x c.args.to c.args.caller waits
    ∙ ap (λ t. check s kind.Range t (fills_there s x y))
    (sym (words_there g c.args.self.now c.args.fun.now next s c.args.caller represents waits c.args.to x.len) ∙ sym c.has_cells.ensures.test
    ∙ c.if-not-has_cells.false)
    ∙ checked s kind.Access _ _ (fills_closed s x y) _ (c.may_write.ensures s g.name represents.opened.told) (c.in_ok-check.ensures s _)
    ∙ checked s kind.Slot _ _ (fills_none s x y) _ (c.is_closed.ensures g s represents) (c.in_ok-check-2.ensures s _)
    ∙ checked s kind.Lost _ _ (check s kind.Lost (leaves_none s (abstract_range x)) (filled s x y)) _ (c.is_nameless.ensures g s represents)
    (c.in_ok-check-3.ensures s _)
    ∙ checked s kind.Lost _ _ (filled s x y) _ (c.leaves_none.ensures g s represents) (c.in_err-check-4.ensures s _))

pub returns-in_err-can_free : goal.returns-in_err-can_free
returns-in_err-can_free c = λ next. passes_wanting _ _ _ _ _ _ _ _ c.from_residual-in_err-can_free.ensures.1

pub returns-in_err-transfer : goal.returns-in_err-transfer
returns-in_err-transfer c = λ next. passes_wanting _ _ _ _ _ _ _ _ c.from_residual-in_err-transfer.ensures.1

pub returns : goal.returns
returns c = λ next.
    let x : Range = c.args.x.range in
    let y : Range = record { block = c.args.caller; from = c.args.to; len = c.args.x.range.len } in
    leads_as c.args.fun.now next c.args.self.now c.go_back.new.self (Waits (Some c.args.caller) next) Returned (λ s. filled s x y) _ (λ g s represents waits.
    fills_words s next x c.args.to c.args.caller waits
    ∙ ap (λ t. check s kind.Range t (fills_there s x y))
    (sym (words_there g c.args.self.now c.args.fun.now next s c.args.caller represents waits c.args.to x.len) ∙ sym c.has_cells.ensures.test
    ∙ c.if-not-has_cells.false)
    ∙ checked s kind.Access _ _ (fills_closed s x y) _ (c.may_write.ensures s g.name represents.opened.told) (c.in_ok-check.ensures s _)
    ∙ checked s kind.Slot _ _ (fills_none s x y) _ (c.is_closed.ensures g s represents) (c.in_ok-check-2.ensures s _)
    ∙ checked s kind.Lost _ _ (check s kind.Lost (leaves_none s (abstract_range x)) (filled s x y)) _ (c.is_nameless.ensures g s represents)
    (c.in_ok-check-3.ensures s _)
    ∙ checked s kind.Lost _ _ (filled s x y) _ (c.leaves_none.ensures g s represents) (c.in_ok-check-4.ensures s _))
    (behind_transfer c.args.fun.now next c.args.self.now c.transfer.new.self c.go_back.new.self x y (Some c.args.caller)
    (λ g s represents. moved_seen c.args.self.now c.transfer.new.self x y c.in_ok-transfer.ensures c.requires.cells
    (c.has_cells.ensures.there (search rules)) refl g c.args.fun.now s represents)
    (c.go_back.ensures c.args.fun.now next))
