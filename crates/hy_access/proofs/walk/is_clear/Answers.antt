use Rattle.std.proofs.Common.{◌≡◌, ◌-◌, ◌∙◌, Some, None, Bool, true, false, refl, sym}
use Rattle.slab.specs.Slab.{get}
use Rattle.hy_access.proofs.Walking.{ended, free, refused, climbed, passed}
use Rattle.hy_access.proofs.walk.is_clear.Goals.{then-is_next, else-is_next+else-forbids}
use Rattle.hy_access.proofs.walk.is_clear.Goals as goal

false_not : (b : Bool) → b ≡ false → b ≡ true → ⊥
false_not b is_false is_true = cc

pub returns-in_default : goal.returns-in_default
returns-in_default c = (
  λ yes. c.loop.invariant.1 (ended c.args.slots.now c.args.way c.args.range.now c.loop.up c.loop.at (c.len-end.result - c.loop.counter) c.in_default.is),
  λ clear. refl,
)

pub returns-in_default-get : goal.returns-in_default-get
returns-in_default-get c =
    let nothing : get c.args.slots.now c.in-Some.index ≡ None = sym c.in_default-get.ensures in (
      λ yes. c.loop.invariant.1 (free c.args.slots.now c.args.way c.args.range.now c.loop.up c.loop.at (c.len-end.result - c.loop.counter) c.in-Some.index
          c.in-Some.is nothing),
      λ clear. refl,
    )

pub returns-then-forbids : goal.returns-then-forbids
returns-then-forbids c =
    let found : get c.args.slots.now c.in-Some.index ≡ Some c.in-Some-get.slot.now = sym c.in-Some-get.ensures in (
      λ never. cc,
      λ clear. absurd (refused c.args.slots.now c.args.way c.args.range.now c.loop.at c.in-Some.index c.loop.counter c.len-end.result c.in-Some-get.slot.now
          c.in-Some.is c.loop-test.true found c.loop.up
          (λ is. false_not c.is_next.result c.if-is_next.false (c.is_next.ensures.1 is)) (c.forbids.ensures.0 c.if-forbids.true) (c.loop.invariant.0 clear)),
    )

pub loop-preserved : goal.loop-preserved
loop-preserved c =
    let found : get c.args.slots.now c.in-Some.index ≡ Some c.in-Some-get.slot.now = sym c.in-Some-get.ensures in
    elim c.if-is_next.branch [
      | then-is_next w ↦
          let step = climbed c.args.slots.now c.args.way c.args.range.now c.loop.at c.in-Some.index c.loop.counter c.len-end.result c.in-Some-get.slot.now
          c.in-Some.is c.loop-test.true found c.loop.up (c.is_next.ensures.0 w.if-is_next.true) in
          rw (w.up-is ∙ w.place-up-then-is_next.ensures) (
            λ whole. step.0 (c.loop.invariant.0 whole),
            λ rest. c.loop.invariant.1 (step.1 rest),
          )
      | else-is_next+else-forbids w ↦
          let step = passed c.args.slots.now c.args.way c.args.range.now c.loop.at c.in-Some.index c.loop.counter c.len-end.result c.in-Some-get.slot.now
          c.in-Some.is c.loop-test.true found c.loop.up
          (λ is. false_not c.is_next.result w.if-is_next.false (c.is_next.ensures.1 is))
          (λ stands. false_not w.forbids.result w.if-forbids.false (w.forbids.ensures.1 stands)) in
          rw w.up-is (
            λ whole. step.0 (c.loop.invariant.0 whole),
            λ rest. c.loop.invariant.1 (step.1 rest),
          )
    ]
