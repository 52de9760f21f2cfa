use Rattle.std.proofs.Common.{◌∙◌, List, pos, subst}
use Rattle.hy_object.specs.declared.stuck.Kind.TheVariants as kind
use Rattle.hy_object.specs.Checks.{Reach, check, is_nameless, may_write, next, puts, takes}
use Rattle.hy_object.specs.Elements.{header}
use Rattle.hy_object.specs.States.{State}
use Rattle.hy_store.specs.Executes.{MayRunOut}
use Rattle.hy_store.specs.Allots.{Allots}
use Rattle.hy_store.specs.Cells.{Cell}
use Rattle.hy_store.specs.Represents.{represented}
use Rattle.hy_store.proofs.Allotting.{made_goes}
use Rattle.hy_store.proofs.Following.{checked, told_halt, out_of_memory}
use Rattle.hy_store.proofs.Growing.{counted_before}
use Rattle.hy_store.proofs.store.Store.new_array.Goals as goal

abbrev made : State → Reach → State
made s x = puts (takes (next s) 0) x.range (header s.counts.blocks (pos 0))

abbrev nameless : State → Reach → State
nameless s x = check s kind.Lost (is_nameless s x.range) (made s x)

abbrev written : State → Reach → State
written s x = check s kind.Access (may_write s x) (nameless s x)

pub returns-in_err-x : goal.returns-in_err-x
returns-in_err-x c = told_halt MayRunOut _ _ _ _ _ _ c.from_residual.ensures.1 (λ g s represents. c.in_err-x.ensures.checks g s represents (written s))

pub returns-in_err-check : goal.returns-in_err-check
returns-in_err-check c = told_halt MayRunOut _ _ _ _ _ _ c.from_residual-in_err-check.ensures.1 (λ g s represents. let x : Reach =
    represented g s c.in_ok-x.x in
    c.in_ok-x.ensures.checks g s represents (written s)
    ∙ checked s kind.Access _ _ (nameless s x) _ (c.may_write.ensures s g.name represents.opened.told) (c.in_err-check.ensures s _))

pub returns-in_err-check-2 : goal.returns-in_err-check-2
returns-in_err-check-2 c = told_halt MayRunOut _ _ _ _ _ _ c.from_residual-in_err-check-2.ensures.1 (λ g s represents. let x : Reach =
    represented g s c.in_ok-x.x in
    c.in_ok-x.ensures.checks g s represents (written s)
    ∙ checked s kind.Access _ _ (nameless s x) _ (c.may_write.ensures s g.name represents.opened.told) (c.in_ok-check.ensures s _)
    ∙ checked s kind.Lost _ _ (made s x) _ (c.is_nameless.ensures g s represents) (c.in_err-check-2.ensures s _))

pub returns-in_err-allot : goal.returns-in_err-allot
returns-in_err-allot c = out_of_memory _ _ _ _ _ c.from_residual-in_err-allot.ensures.1

pub allot-requires-clause-other : goal.allot-requires-clause-other
allot-requires-clause-other c =
    counted_before c.requires.0 c.args.self.now c.args.fun.now c.requires.1 c.requires.2 c.in_ok-x.x.range.block c.in_ok-x.x.range.from
    c.in_ok-x.x.range.len c.in_ok-x.ensures.reached.cells

pub returns : goal.returns
returns c =
    let reached = c.in_ok-x.ensures.reached in
    let allots = subst (λ (row : List Cell). Allots c.args.self.now c.allot.new.self c.in_ok-x.x.range row (pos 0))
    c.new.ensures.items c.in_ok-allot.ensures in
    made_goes c.args.self.now c.allot.new.self c.args.fun.now c.in_ok-x.x.range allots reached.cells reached.len
    (counted_before c.requires.0 c.args.self.now c.args.fun.now c.requires.1 c.requires.2 c.in_ok-x.x.range.block c.in_ok-x.x.range.from
    c.in_ok-x.x.range.len reached.cells) _
    (λ g s represents. let x : Reach = represented g s c.in_ok-x.x in c.in_ok-x.ensures.checks g s represents (written s)
    ∙ checked s kind.Access _ _ (nameless s x) _ (c.may_write.ensures s g.name represents.opened.told) (c.in_ok-check.ensures s _)
    ∙ checked s kind.Lost _ _ (made s x) _ (c.is_nameless.ensures g s represents) (c.in_ok-check-2.ensures s _))
