-- What a copy costs.
use Rattle.std.proofs.Common.{◌≡◌, refl, ◌∙◌, ap, sym, arith}
use Rattle.std.specs.Prelude.{ℕ, suc, ◌+◌}
use Rattle.hy_core.specs.Values.{Val, Unset, Number, Truth, Tuple, Product, Array, Vals, No, And}
use Rattle.hy_copying.specs.Runs.{State}
use Rattle.hy_copying.specs.Places.{Env}
use Rattle.hy_copying.specs.Does.{Outcome, Gives, and_then}
use Rattle.hy_copying.specs.Lives.{Later, Copying, visits, visits_parts, visits_elements}
use Rattle.hy_copying.specs.Laws.{cost, cost_of_parts, cost_of_elements, counting}

before : (c n : ℕ) → suc c + n ≡ suc (c + n)
before c n = omega arith

after : (c n : ℕ) → c + suc n ≡ suc c + n
after c n = omega arith

turns : (m n k : ℕ) → m + n + k ≡ m + (n + k)
turns m n k = omega arith

places : (m n k : ℕ) → n + (m + k) ≡ m + n + k
places m n k = omega arith

nothing_more : (n : ℕ) → 0 + n ≡ n
nothing_more n = omega arith

abbrev Costs : (does : Env → State → Outcome (Unit {0})) → ℕ → Type 0
Costs does n = (env : Env) (s : State) (left opened : ℕ) → does env (counting s (n + left) opened) ≡ Gives tt env (counting s left (n + opened))

none : (does : Env → State → Outcome (Unit {0})) → ((env : Env) (s : State) → does env s ≡ Gives tt env s) → Costs does 0
none does is env s left opened =
    ap (λ n. does env (counting s n opened)) (nothing_more left) ∙ is env (counting s left opened)
    ∙ ap (λ n. Gives tt env (counting s left n)) (sym (nothing_more opened))

both : (first second : Env → State → Outcome (Unit {0})) (m n : ℕ) → Costs first m → Costs second n
    → Costs (λ env s. and_then (first env s) (λ given. second)) (m + n)
both first second m n a b env s left opened =
    ap (λ k. and_then (first env (counting s k opened)) (λ given. second)) (turns m n left)
    ∙ ap (λ o. and_then o (λ given. second)) (a env s (n + left) opened)
    ∙ b env s left (m + opened)
    ∙ ap (λ k. Gives tt env (counting s left k)) (places m n opened)

mutual
  pub copy_costs : (later : Later) (v : Val) → Costs (visits later Copying v) (cost v)
  copy_costs later Unset = none _ (λ env s. refl)
  copy_costs later (Number t n) = none _ (λ env s. refl)
  copy_costs later (Truth b) = none _ (λ env s. refl)
  copy_costs later (Tuple vs) = parts_cost later vs
  copy_costs later (Product d vs) = parts_cost later vs
  copy_costs later (Array vs) = λ env s left opened.
      ap (λ n. visits later Copying (Array vs) env (counting s n opened)) (before (cost_of_elements vs) left)
      ∙ elements_cost later vs env s left (suc opened)
      ∙ ap (λ n. Gives tt env (counting s left n)) (after (cost_of_elements vs) opened)

  parts_cost : (later : Later) (vs : Vals) → Costs (visits_parts later Copying vs) (cost_of_parts vs)
  parts_cost later No = none _ (λ env s. refl)
  parts_cost later (And v vs) = both (visits later Copying v) (visits_parts later Copying vs) (cost v) (cost_of_parts vs) (copy_costs later v)
      (parts_cost later vs)

  elements_cost : (later : Later) (vs : Vals) → Costs (visits_elements later Copying vs) (cost_of_elements vs)
  elements_cost later No = none _ (λ env s. refl)
  elements_cost later (And v vs) = λ env s left opened.
      ap (λ n. visits_elements later Copying (And v vs) env (counting s n opened)) (before (cost v + cost_of_elements vs) left)
      ∙ both (visits later Copying v) (visits_elements later Copying vs) (cost v) (cost_of_elements vs) (copy_costs later v)
      (elements_cost later vs) env s left (suc opened)
      ∙ ap (λ n. Gives tt env (counting s left n)) (after (cost v + cost_of_elements vs) opened)
