use Rattle.std.proofs.Common.{◌∙◌, ℕ, sym}
use Rattle.hy_object.specs.declared.instr.Place.{Place}
use Rattle.hy_object.specs.declared.stuck.Kind.TheVariants as kind
use Rattle.hy_object.specs.Checks.{Reach, check, is_nameless, is_whole, may_read, may_write, next, puts, reach}
use Rattle.hy_object.specs.States.{State, window}
use Rattle.hy_object.specs.Words.{copy}
use Rattle.hy_store.specs.Executes.{MayRunOut}
use Rattle.hy_store.specs.Opened.{abstract_range}
use Rattle.hy_store.specs.Represents.{represented, Stores}
use Rattle.hy_store.proofs.Following.{checked, told_halt, out_of_memory}
use Rattle.hy_store.proofs.Storing.{writes_cells}
use Rattle.hy_store.proofs.Wholes.{row_tells, row_length}
use Rattle.hy_store.proofs.store.Store.copy.Goals as goal

-- the checks of a copy to `x` from `y`, each with those after it
abbrev from_lost : State → (x y : Reach) → State
from_lost s x y = check s kind.Lost (is_nameless s x.range) (puts (next s) x.range (window s.cells y.range))

abbrev from_kind : State → (x y : Reach) → State
from_kind s x y = check s kind.Kind (is_nameless s y.range) (from_lost s x y)

abbrev from_unset : State → (x y : Reach) → State
from_unset s x y = check s kind.Unset (is_whole s y.range) (from_kind s x y)

abbrev from_read : State → (x y : Reach) → State
from_read s x y = check s kind.Access (may_read s y) (from_unset s x y)

abbrev from_place : State → Place → (words : ℕ) → Reach → State
from_place s from words x = reach s from words (from_read s x)

abbrev from_write : State → Place → (words : ℕ) → Reach → State
from_write s from words x = check s kind.Access (may_write s x) (from_place s from words x)

pub returns-in_err-x : goal.returns-in_err-x
returns-in_err-x c = told_halt MayRunOut _ _ _ _ _ _ c.from_residual.ensures.1 (λ g s represents.
    c.in_err-x.ensures.checks g s represents (from_write s c.args.from c.args.words))

pub returns-in_err-check : goal.returns-in_err-check
returns-in_err-check c = told_halt MayRunOut _ _ _ _ _ _ c.from_residual-in_err-check.ensures.1 (λ g s represents.
    let x : Reach = represented g s c.in_ok-x.x in
    c.in_ok-x.ensures.checks g s represents (from_write s c.args.from c.args.words)
    ∙ checked s kind.Access _ _ (from_place s c.args.from c.args.words x) _ (c.may_write.ensures s g.name represents.opened.told) (c.in_err-check.ensures s _))

pub returns-in_err-y : goal.returns-in_err-y
returns-in_err-y c = told_halt MayRunOut _ _ _ _ _ _ c.from_residual-in_err-y.ensures.1 (λ g s represents.
    let x : Reach = represented g s c.in_ok-x.x in
    c.in_ok-x.ensures.checks g s represents (from_write s c.args.from c.args.words)
    ∙ checked s kind.Access _ _ (from_place s c.args.from c.args.words x) _ (c.may_write.ensures s g.name represents.opened.told) (c.in_ok-check.ensures s _)
    ∙ c.in_err-y.ensures.checks g s represents (from_read s x))

pub returns-in_err-check-2 : goal.returns-in_err-check-2
returns-in_err-check-2 c = told_halt MayRunOut _ _ _ _ _ _ c.from_residual-in_err-check-2.ensures.1 (λ g s represents.
    let x : Reach = represented g s c.in_ok-x.x in
    let y : Reach = represented g s c.in_ok-y.y in
    c.in_ok-x.ensures.checks g s represents (from_write s c.args.from c.args.words)
    ∙ checked s kind.Access _ _ (from_place s c.args.from c.args.words x) _ (c.may_write.ensures s g.name represents.opened.told) (c.in_ok-check.ensures s _)
    ∙ c.in_ok-y.ensures.checks g s represents (from_read s x)
    ∙ checked s kind.Access _ _ (from_unset s x y) _ (c.may_read.ensures s g.name represents.opened.told) (c.in_err-check-2.ensures s _))

pub returns-in_err-check-3 : goal.returns-in_err-check-3
returns-in_err-check-3 c = told_halt MayRunOut _ _ _ _ _ _ c.from_residual-in_err-check-3.ensures.1 (λ g s represents.
    let x : Reach = represented g s c.in_ok-x.x in
    let y : Reach = represented g s c.in_ok-y.y in
    c.in_ok-x.ensures.checks g s represents (from_write s c.args.from c.args.words)
    ∙ checked s kind.Access _ _ (from_place s c.args.from c.args.words x) _ (c.may_write.ensures s g.name represents.opened.told) (c.in_ok-check.ensures s _)
    ∙ c.in_ok-y.ensures.checks g s represents (from_read s x)
    ∙ checked s kind.Access _ _ (from_unset s x y) _ (c.may_read.ensures s g.name represents.opened.told) (c.in_ok-check-2.ensures s _)
    ∙ checked s kind.Unset _ _ (from_kind s x y) _ (c.is_whole.ensures g s represents) (c.in_err-check-3.ensures s _))

pub returns-in_err-check-4 : goal.returns-in_err-check-4
returns-in_err-check-4 c = told_halt MayRunOut _ _ _ _ _ _ c.from_residual-in_err-check-4.ensures.1 (λ g s represents.
    let x : Reach = represented g s c.in_ok-x.x in
    let y : Reach = represented g s c.in_ok-y.y in
    c.in_ok-x.ensures.checks g s represents (from_write s c.args.from c.args.words)
    ∙ checked s kind.Access _ _ (from_place s c.args.from c.args.words x) _ (c.may_write.ensures s g.name represents.opened.told) (c.in_ok-check.ensures s _)
    ∙ c.in_ok-y.ensures.checks g s represents (from_read s x)
    ∙ checked s kind.Access _ _ (from_unset s x y) _ (c.may_read.ensures s g.name represents.opened.told) (c.in_ok-check-2.ensures s _)
    ∙ checked s kind.Unset _ _ (from_kind s x y) _ (c.is_whole.ensures g s represents) (c.in_ok-check-3.ensures s _)
    ∙ checked s kind.Kind _ _ (from_lost s x y) _ (c.is_nameless.ensures g s represents) (c.in_err-check-4.ensures s _))

pub returns-in_err-check-5 : goal.returns-in_err-check-5
returns-in_err-check-5 c = told_halt MayRunOut _ _ _ _ _ _ c.from_residual-in_err-check-5.ensures.1 (λ g s represents.
    let x : Reach = represented g s c.in_ok-x.x in
    let y : Reach = represented g s c.in_ok-y.y in
    c.in_ok-x.ensures.checks g s represents (from_write s c.args.from c.args.words)
    ∙ checked s kind.Access _ _ (from_place s c.args.from c.args.words x) _ (c.may_write.ensures s g.name represents.opened.told) (c.in_ok-check.ensures s _)
    ∙ c.in_ok-y.ensures.checks g s represents (from_read s x)
    ∙ checked s kind.Access _ _ (from_unset s x y) _ (c.may_read.ensures s g.name represents.opened.told) (c.in_ok-check-2.ensures s _)
    ∙ checked s kind.Unset _ _ (from_kind s x y) _ (c.is_whole.ensures g s represents) (c.in_ok-check-3.ensures s _)
    ∙ checked s kind.Kind _ _ (from_lost s x y) _ (c.is_nameless.ensures g s represents) (c.in_ok-check-4.ensures s _)
    ∙ checked s kind.Lost _ _ (puts (next s) x.range (window s.cells y.range)) _ (c.is_nameless-2.ensures g s represents) (c.in_err-check-5.ensures s _))

pub returns-in_err-row : goal.returns-in_err-row
returns-in_err-row c = out_of_memory _ _ _ _ _ c.from_residual-in_err-row.ensures.1

pub returns : goal.returns
returns c =
    let x = c.in_ok-x.ensures.reached in
    let y = c.in_ok-y.ensures.reached in
    let put : Stores c.args.self.now c.put.new.self c.in_ok-x.x.range c.in_ok-row.row.items = rw (sym c.as_slice.ensures.value) c.put.ensures in
    writes_cells _ _ _ c.in_ok-x.x.range c.in_ok-row.row.items (λ s. copy s c.args.to c.args.from c.args.words)
    (λ s. window s.cells (abstract_range c.in_ok-y.y.range)) put x.cells (row_length _ _ _ c.in_ok-row.ensures ∙ y.len ∙ sym x.len)
    (λ g s represents. (
      let x : Reach = represented g s c.in_ok-x.x in
          let y : Reach = represented g s c.in_ok-y.y in
          c.in_ok-x.ensures.checks g s represents (from_write s c.args.from c.args.words)
          ∙ checked s kind.Access _ _ (from_place s c.args.from c.args.words x) _ (c.may_write.ensures s g.name represents.opened.told)
          (c.in_ok-check.ensures s _)
          ∙ c.in_ok-y.ensures.checks g s represents (from_read s x)
          ∙ checked s kind.Access _ _ (from_unset s x y) _ (c.may_read.ensures s g.name represents.opened.told) (c.in_ok-check-2.ensures s _)
          ∙ checked s kind.Unset _ _ (from_kind s x y) _ (c.is_whole.ensures g s represents) (c.in_ok-check-3.ensures s _)
          ∙ checked s kind.Kind _ _ (from_lost s x y) _ (c.is_nameless.ensures g s represents) (c.in_ok-check-4.ensures s _)
          ∙ checked s kind.Lost _ _ (puts (next s) x.range (window s.cells y.range)) _ (c.is_nameless-2.ensures g s represents) (c.in_ok-check-5.ensures s _),
      row_tells g c.args.self.now c.args.fun.now s represents c.in_ok-y.y.range c.in_ok-row.row.items c.in_ok-row.ensures,
    ))
