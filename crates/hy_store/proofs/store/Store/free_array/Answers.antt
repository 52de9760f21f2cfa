use Rattle.std.proofs.Common.{◌∙◌, ℕ, ℤ, ap}
use Rattle.hy_object.specs.declared.stuck.Kind.TheVariants as kind
use Rattle.hy_object.specs.Checks.{Reach, check, frees, is_nameless, next, puts}
use Rattle.hy_object.specs.Elements.{all_of}
use Rattle.hy_object.specs.States.{State, unset}
use Rattle.hy_store.specs.Executes.{MayRunOut}
use Rattle.hy_store.specs.Represents.{represented}
use Rattle.hy_store.proofs.Allotting.{all_is, freed_goes}
use Rattle.hy_store.proofs.Following.{checked, told_halt, out_of_memory}
use Rattle.hy_store.proofs.Heading.{live_taken}
use Rattle.hy_store.proofs.store.Store.free_array.Goals as goal

abbrev freed : State → Reach → ℕ → State
freed s x block = puts (frees (next s) block) x.range unset

abbrev nameless : State → Reach → ℕ → ℤ → State
nameless s x block count = check s kind.Lost (is_nameless s (all_of s block)) (freed s x block)

pub returns-in_err-array : goal.returns-in_err-array
returns-in_err-array c = told_halt MayRunOut _ _ _ _ _ _ c.from_residual.ensures.1
    (λ g s represents. c.in_err-array.ensures.checks g s represents (nameless s))

pub returns-in_err-check : goal.returns-in_err-check
returns-in_err-check c = told_halt MayRunOut _ _ _ _ _ _ c.from_residual-in_err-check.ensures.1 (λ g s represents.
    let x : Reach = represented g s c.in_ok-array.array.cells in
    let test = ap (is_nameless s) (all_is s c.in_ok-array.array.block c.size.result c.whole-all.result.range c.whole-all.ensures.range
    (c.size.ensures.words g s represents)) ∙ c.is_nameless.ensures g s represents in
    c.in_ok-array.ensures.checks g s represents (nameless s)
    ∙ checked s kind.Lost _ _ (freed s x c.in_ok-array.array.block) _ test (c.in_err-check.ensures s _))

pub returns-in_err-free_block : goal.returns-in_err-free_block
returns-in_err-free_block c = out_of_memory _ _ _ _ _ c.from_residual-in_err-free_block.ensures.1

pub returns : goal.returns
returns c =
    let reached = c.in_ok-array.ensures.reached in
    freed_goes c.args.self.now c.unset.new.self c.free_block.new.self c.args.fun.now c.in_ok-array.array.cells.range c.in_ok-array.array.block
    c.unset.ensures reached.cells c.in_ok-free_block.ensures
    (λ g s represents. (
      c.in_ok-array.ensures.is_array g s represents,
      live_taken g c.args.self.now c.args.fun.now s represents c.in_ok-array.array.block c.in_ok-array.ensures.lives,
    )) _
    (λ g s represents.
    let x : Reach = represented g s c.in_ok-array.array.cells in
    let test = ap (is_nameless s) (all_is s c.in_ok-array.array.block c.size.result c.whole-all.result.range c.whole-all.ensures.range
    (c.size.ensures.words g s represents)) ∙ c.is_nameless.ensures g s represents in
    c.in_ok-array.ensures.checks g s represents (nameless s)
    ∙ checked s kind.Lost _ _ (freed s x c.in_ok-array.array.block) _ test (c.in_ok-check.ensures s _))
