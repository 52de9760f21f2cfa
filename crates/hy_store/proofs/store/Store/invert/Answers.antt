use Rattle.std.proofs.Common.{◌∙◌, ap, ◌∷◌, [], refl, ℤ, rules, SFits, w64}
use Rattle.std.proofs.lemmas.Int.{to_z-of_z}
use Rattle.hy_object.specs.declared.stuck.Kind.TheVariants as kind
use Rattle.hy_object.specs.Checks.{Reach, check, is_nameless, read_word, store}
use Rattle.hy_object.specs.Words.{is_zero, truth}
use Rattle.hy_store.specs.Executes.{InPlace}
use Rattle.hy_store.specs.Cells.{Word}
use Rattle.hy_store.specs.Represents.{represented, Stores}
use Rattle.hy_store.proofs.Following.{checked, told_halt}
use Rattle.hy_store.proofs.Storing.{writes_word}
use Rattle.hy_store.proofs.store.Store.invert.Goals as goal

pub returns-in_err-reach : goal.returns-in_err-reach
returns-in_err-reach c =
    told_halt InPlace _ _ _ _ _ _ c.from_residual.ensures.1 (λ g s represents. c.in_err-reach.ensures.checks g s represents
    (λ x. read_word s c.args.a (λ n. check s kind.Lost (is_nameless s x.range) (store s x (truth (is_zero n))))))

pub returns-in_err-n : goal.returns-in_err-n
returns-in_err-n c = told_halt InPlace _ _ _ _ _ _ c.from_residual-in_err-n.ensures.1 (λ g s represents. let x : Reach = represented g s c.in_ok-reach.reach in
    c.in_ok-reach.ensures.checks g s represents (λ x. read_word s c.args.a (λ n. check s kind.Lost (is_nameless s x.range) (store s x (truth (is_zero n)))))
    ∙ c.in_err-n.ensures g s represents (λ n. check s kind.Lost (is_nameless s x.range) (store s x (truth (is_zero n)))))

pub returns-in_err-check : goal.returns-in_err-check
returns-in_err-check c = told_halt InPlace _ _ _ _ _ _ c.from_residual-in_err-check.ensures.1 (λ g s represents. let x : Reach =
    represented g s c.in_ok-reach.reach in let n : ℤ = c.in_ok-n.n in
    c.in_ok-reach.ensures.checks g s represents (λ x. read_word s c.args.a (λ n. check s kind.Lost (is_nameless s x.range) (store s x (truth (is_zero n)))))
    ∙ c.in_ok-n.ensures g s represents (λ n. check s kind.Lost (is_nameless s x.range) (store s x (truth (is_zero n))))
    ∙ checked s kind.Lost _ _ (store s x (truth (is_zero n))) _ (c.is_nameless.ensures g s represents) (c.in_err-check.ensures s _))

pub returns : goal.returns
returns c =
    let is = let fn : SFits w64 c.in_ok-n.n = search rules in rw (to_z-of_z w64 c.in_ok-n.n fn) at c.is_zero.ensures in
    let reached = c.in_ok-reach.ensures.reached in
    let fits : SFits w64 c.truth-value.result = search rules in
    let put : Stores c.args.self.now c.put.new.self c.in_ok-reach.reach.range (Word c.truth-value.result ∷ []) =
    rw (to_z-of_z w64 c.truth-value.result fits) at c.put.ensures in
    writes_word _ _ _ c.in_ok-reach.reach.range c.truth-value.result _ (λ g s. represented g s c.in_ok-reach.reach) put reached.cells reached.len
    (λ g s represents. (
      refl,
      let x : Reach = represented g s c.in_ok-reach.reach in let n : ℤ = c.in_ok-n.n in
          c.in_ok-reach.ensures.checks g s represents
          (λ x. read_word s c.args.a (λ n. check s kind.Lost (is_nameless s x.range) (store s x (truth (is_zero n)))))
          ∙ c.in_ok-n.ensures g s represents (λ n. check s kind.Lost (is_nameless s x.range) (store s x (truth (is_zero n))))
          ∙ checked s kind.Lost _ _ (store s x (truth (is_zero n))) _ (c.is_nameless.ensures g s represents) (c.in_ok-check.ensures s _)
          ∙ ap (λ b. store s (represented g s c.in_ok-reach.reach) (truth b)) is ∙ ap (store s (represented g s c.in_ok-reach.reach)) c.truth-value.ensures,
    ))
