use Rattle.std.proofs.Common.{◌∙◌, ℕ, ℤ, ap, not}
use Rattle.hy_object.specs.declared.stuck.Kind.TheVariants as kind
use Rattle.hy_object.specs.Checks.{Reach, check, may_write, meets, own_words}
use Rattle.hy_store.specs.Represents.{represented}
use Rattle.hy_store.proofs.Counted.{meets_is}
use Rattle.hy_store.proofs.Following.{checked, handed}
use Rattle.hy_store.proofs.store.Store.sides.Goals as goal

pub returns-in_err-array-clause-checks : goal.returns-in_err-array-clause-checks
returns-in_err-array-clause-checks c =
    λ g s represents go. c.in_err-array.ensures.checks g s represents
    (λ x block count. own_words s c.args.word c.args.width (λ y. check s kind.Range (not (meets x.range y.range))
    (check s kind.Access (may_write s y) (go x block count y)))) ∙ handed s _ _ _ c.from_residual.ensures.1

pub returns-in_err-words-clause-checks : goal.returns-in_err-words-clause-checks
returns-in_err-words-clause-checks c = λ g s represents go. let x : Reach = represented g s c.in_ok-array.array.cells in let block : ℕ =
    c.in_ok-array.array.block in let count : ℤ = c.in_ok-array.array.count in
    c.in_ok-array.ensures.checks g s represents (λ x block count. own_words s c.args.word c.args.width
    (λ y. check s kind.Range (not (meets x.range y.range)) (check s kind.Access (may_write s y) (go x block count y))))
    ∙ c.in_err-words.ensures.checks g s represents (λ y. check s kind.Range (not (meets x.range y.range))
    (check s kind.Access (may_write s y) (go x block count y))) ∙ handed s _ _ _ c.from_residual-in_err-words.ensures.1

pub returns-in_err-check-clause-checks : goal.returns-in_err-check-clause-checks
returns-in_err-check-clause-checks c = λ g s represents go. let x : Reach = represented g s c.in_ok-array.array.cells in let block : ℕ =
    c.in_ok-array.array.block in let count : ℤ = c.in_ok-array.array.count in let y : Reach = represented g s c.in_ok-words.words in
    c.in_ok-array.ensures.checks g s represents (λ x block count. own_words s c.args.word c.args.width
    (λ y. check s kind.Range (not (meets x.range y.range)) (check s kind.Access (may_write s y) (go x block count y))))
    ∙ c.in_ok-words.ensures.checks g s represents (λ y. check s kind.Range (not (meets x.range y.range))
    (check s kind.Access (may_write s y) (go x block count y)))
    ∙ checked s kind.Range _ _ (check s kind.Access (may_write s y) (go x block count y)) _ (ap not (meets_is _ _ _ c.meets.ensures))
    (c.in_err-check.ensures s _) ∙ handed s _ _ _ c.from_residual-in_err-check.ensures.1

pub returns-in_err-check-2-clause-checks : goal.returns-in_err-check-2-clause-checks
returns-in_err-check-2-clause-checks c = λ g s represents go. let x : Reach = represented g s c.in_ok-array.array.cells in let block : ℕ =
    c.in_ok-array.array.block in let count : ℤ = c.in_ok-array.array.count in let y : Reach = represented g s c.in_ok-words.words in
    c.in_ok-array.ensures.checks g s represents (λ x block count. own_words s c.args.word c.args.width
    (λ y. check s kind.Range (not (meets x.range y.range)) (check s kind.Access (may_write s y) (go x block count y))))
    ∙ c.in_ok-words.ensures.checks g s represents (λ y. check s kind.Range (not (meets x.range y.range))
    (check s kind.Access (may_write s y) (go x block count y)))
    ∙ checked s kind.Range _ _ (check s kind.Access (may_write s y) (go x block count y)) _ (ap not (meets_is _ _ _ c.meets.ensures))
    (c.in_ok-check.ensures s _)
    ∙ checked s kind.Access _ _ (go x block count y) _ (c.may_write.ensures s g.name represents.opened.told) (c.in_err-check-2.ensures s _)
    ∙ handed s _ _ _ c.from_residual-in_err-check-2.ensures.1

pub returns-clause-checks : goal.returns-clause-checks
returns-clause-checks c = λ g s represents go. let x : Reach = represented g s c.in_ok-array.array.cells in let block : ℕ = c.in_ok-array.array.block in
    let count : ℤ = c.in_ok-array.array.count in let y : Reach = represented g s c.in_ok-words.words in
    c.in_ok-array.ensures.checks g s represents (λ x block count. own_words s c.args.word c.args.width
    (λ y. check s kind.Range (not (meets x.range y.range)) (check s kind.Access (may_write s y) (go x block count y))))
    ∙ c.in_ok-words.ensures.checks g s represents (λ y. check s kind.Range (not (meets x.range y.range))
    (check s kind.Access (may_write s y) (go x block count y)))
    ∙ checked s kind.Range _ _ (check s kind.Access (may_write s y) (go x block count y)) _ (ap not (meets_is _ _ _ c.meets.ensures))
    (c.in_ok-check.ensures s _)
    ∙ checked s kind.Access _ _ (go x block count y) _ (c.may_write.ensures s g.name represents.opened.told) (c.in_ok-check-2.ensures s _)
