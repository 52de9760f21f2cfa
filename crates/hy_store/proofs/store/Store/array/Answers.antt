use Rattle.std.proofs.Common.{◌∙◌, ◌≡◌, ℕ, ℤ, ap, refl, sym, arith, rules, SFits, w64}
use Rattle.std.proofs.lemmas.Int.{to_z-of_z}
use Rattle.hy_object.specs.declared.stuck.Kind.TheVariants as kind
use Rattle.hy_object.specs.Checks.{Reach, check, is_live, may_use}
use Rattle.hy_object.specs.Elements.{pair_in}
use Rattle.hy_object.specs.States.{State, window}
use Rattle.hy_store.specs.Held.{abstract_cell}
use Rattle.hy_store.specs.Memory.{live}
use Rattle.hy_store.specs.Opened.{abstract_range}
use Rattle.hy_store.specs.Represents.{represented}
use Rattle.hy_store.proofs.Following.{checked, handed}
use Rattle.hy_store.proofs.Heading.{holds_if}
use Rattle.hy_store.proofs.Reaching.{live_is}
use Rattle.hy_store.proofs.Wholes.{cell_is, name_is_good}
use Rattle.hy_store.proofs.store.Store.array.Goals as goal

pub returns-in_err-pair-clause-checks : goal.returns-in_err-pair-clause-checks
returns-in_err-pair-clause-checks c = λ g s represents go.
    let is = c.cells-cells.ensures in
    let at = cell_is g c.args.self.now c.args.fun.now s represents c.in_ok-x.x.range c.cells-cells.result.now is in
    let first = at 0 (omega (arith, c.in_ok-x.ensures.reached.len)) ∙ ap abstract_cell (sym c.cell_at.ensures) in
    let second = at 1 (omega (arith, c.in_ok-x.ensures.reached.len)) ∙ ap abstract_cell (sym c.cell_at-2.ensures) in
    let K : ℕ → ℤ → State = λ block count. check s kind.Freed (is_live s block) (go (represented g s c.in_ok-x.x) block count) in
    let held : pair_in s (window s.cells (abstract_range c.in_ok-x.x.range) 0) (window s.cells (abstract_range c.in_ok-x.x.range) 1) K ≡ pair_in s
    (abstract_cell c.cell_at.result) (abstract_cell c.cell_at-2.result) K = λ i. pair_in s (first i) (second i) K in
    c.in_ok-x.ensures.checks g s represents (λ x. check s kind.Access (may_use s c.args.way x)
    (pair_in s (window s.cells x.range 0) (window s.cells x.range 1) (λ block count. check s kind.Freed (is_live s block) (go x block count))))
    ∙ (let x : Reach = represented g s c.in_ok-x.x in
    checked s kind.Access _ _ (pair_in s (window s.cells x.range 0) (window s.cells x.range 1)
    (λ block count. check s kind.Freed (is_live s block) (go x block count))) _ (c.may_use.ensures s g.name represents.opened.told)
    (c.in_ok-check.ensures s _)) ∙ held ∙ c.in_err-pair.ensures.checks s K ∙ handed s _ _ _ c.from_residual-in_err-pair.ensures.1

pub returns-in_err-check-2-clause-checks : goal.returns-in_err-check-2-clause-checks
returns-in_err-check-2-clause-checks c = λ g s represents go.
    let is = c.cells-cells.ensures in
    let at = cell_is g c.args.self.now c.args.fun.now s represents c.in_ok-x.x.range c.cells-cells.result.now is in
    let first = at 0 (omega (arith, c.in_ok-x.ensures.reached.len)) ∙ ap abstract_cell (sym c.cell_at.ensures) in
    let second = at 1 (omega (arith, c.in_ok-x.ensures.reached.len)) ∙ ap abstract_cell (sym c.cell_at-2.ensures) in
    let K : ℕ → ℤ → State = λ block count. check s kind.Freed (is_live s block) (go (represented g s c.in_ok-x.x) block count) in
    let held : pair_in s (window s.cells (abstract_range c.in_ok-x.x.range) 0) (window s.cells (abstract_range c.in_ok-x.x.range) 1) K ≡ pair_in s
    (abstract_cell c.cell_at.result) (abstract_cell c.cell_at-2.result) K = λ i. pair_in s (first i) (second i) K in
    let good = name_is_good g c.args.self.now c.args.fun.now s represents c.in_ok-x.x.range c.cells-cells.result.now is 0
    (omega (arith, c.in_ok-x.ensures.reached.len)) c.in_ok-pair.pair.0 (sym c.cell_at.ensures ∙ c.in_ok-pair.ensures.name) in
    let lives = live_is g c.args.self.now c.args.fun.now s represents c.in_ok-pair.pair.0 good.0 (live c.args.self.now.blocks c.in_ok-pair.pair.0) refl
    ∙ sym c.is_live.ensures in
    c.in_ok-x.ensures.checks g s represents (λ x. check s kind.Access (may_use s c.args.way x)
    (pair_in s (window s.cells x.range 0) (window s.cells x.range 1) (λ block count. check s kind.Freed (is_live s block) (go x block count))))
    ∙ (let x : Reach = represented g s c.in_ok-x.x in
    checked s kind.Access _ _ (pair_in s (window s.cells x.range 0) (window s.cells x.range 1)
    (λ block count. check s kind.Freed (is_live s block) (go x block count))) _ (c.may_use.ensures s g.name represents.opened.told)
    (c.in_ok-check.ensures s _)) ∙ held ∙ c.in_ok-pair.ensures.checks s K ∙ checked s kind.Freed _ _ _ _ lives (c.in_err-check-2.ensures s _)
    ∙ handed s _ _ _ c.from_residual-in_err-check-2.ensures.1

pub returns-clause-checks : goal.returns-clause-checks
returns-clause-checks c = λ g s represents go.
    let is = c.cells-cells.ensures in
    let at = cell_is g c.args.self.now c.args.fun.now s represents c.in_ok-x.x.range c.cells-cells.result.now is in
    let first = at 0 (omega (arith, c.in_ok-x.ensures.reached.len)) ∙ ap abstract_cell (sym c.cell_at.ensures) in
    let second = at 1 (omega (arith, c.in_ok-x.ensures.reached.len)) ∙ ap abstract_cell (sym c.cell_at-2.ensures) in
    let K : ℕ → ℤ → State = λ block count. check s kind.Freed (is_live s block) (go (represented g s c.in_ok-x.x) block count) in
    let held : pair_in s (window s.cells (abstract_range c.in_ok-x.x.range) 0) (window s.cells (abstract_range c.in_ok-x.x.range) 1) K ≡ pair_in s
    (abstract_cell c.cell_at.result) (abstract_cell c.cell_at-2.result) K = λ i. pair_in s (first i) (second i) K in
    let good = name_is_good g c.args.self.now c.args.fun.now s represents c.in_ok-x.x.range c.cells-cells.result.now is 0
    (omega (arith, c.in_ok-x.ensures.reached.len)) c.in_ok-pair.pair.0 (sym c.cell_at.ensures ∙ c.in_ok-pair.ensures.name) in
    let lives = live_is g c.args.self.now c.args.fun.now s represents c.in_ok-pair.pair.0 good.0 (live c.args.self.now.blocks c.in_ok-pair.pair.0) refl
    ∙ sym c.is_live.ensures in
    let fits : SFits w64 c.in_ok-pair.pair.1 = search rules in
    c.in_ok-x.ensures.checks g s represents (λ x. check s kind.Access (may_use s c.args.way x)
    (pair_in s (window s.cells x.range 0) (window s.cells x.range 1) (λ block count. check s kind.Freed (is_live s block) (go x block count))))
    ∙ (let x : Reach = represented g s c.in_ok-x.x in
    checked s kind.Access _ _ (pair_in s (window s.cells x.range 0) (window s.cells x.range 1)
    (λ block count. check s kind.Freed (is_live s block) (go x block count))) _ (c.may_use.ensures s g.name represents.opened.told)
    (c.in_ok-check.ensures s _)) ∙ held ∙ c.in_ok-pair.ensures.checks s K ∙ checked s kind.Freed _ _ _ _ lives (c.in_ok-check-2.ensures s _)
    ∙ ap (go (represented g s c.in_ok-x.x) c.in_ok-pair.pair.0) (sym (to_z-of_z w64 c.in_ok-pair.pair.1 fits))

pub returns-clause-lives : goal.returns-clause-lives
returns-clause-lives c = let s = c.requires.1 in sym c.is_live.ensures ∙ holds_if s kind.Freed _ (λ go. c.in_ok-check-2.ensures s go)

pub returns-clause-is_array : goal.returns-clause-is_array
returns-clause-is_array c =
    λ g s represents. (name_is_good g c.args.self.now c.args.fun.now s represents c.in_ok-x.x.range c.cells-cells.result.now c.cells-cells.ensures 0
    (omega (arith, c.in_ok-x.ensures.reached.len)) c.in_ok-pair.pair.0 (sym c.cell_at.ensures ∙ c.in_ok-pair.ensures.name)).1
