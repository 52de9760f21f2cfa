use Rattle.std.proofs.Common.{◌<◌, ◌≤◌, Ok, refl, subst, ◌∙◌, arith}
use Rattle.std.proofs.lemmas.Result.{err_from_is_err_and}
use Rattle.hy_base.specs.Outside.{StillTells}
use Rattle.hy_base.specs.Streams.{Takes}
use Rattle.hy_runs.proofs.Filling.{nothing_taken, one_more, at_feed, at_input, at_failure, at_room}
use Rattle.hy_runs.proofs.line.Line.fill.Goals as goal

pub returns-in_err-byte-clause-fills : goal.returns-in_err-byte-clause-fills
returns-in_err-byte-clause-fills g c =
    let room : c.loop.counter < 4097 = omega arith in
    let p = err_from_is_err_and c.from_residual.result c.from_residual.ensures.1 in
    rw p.1 (at_failure _ _ _ _ _ c.loop.invariant.0 room p.0 c.in_err-byte.ensures.bytes)

pub returns-in_default-clause-fills : goal.returns-in_default-clause-fills
returns-in_default-clause-fills g c =
    let room : c.loop.counter < 4097 = omega arith in
    at_input _ _ _ _ _ c.loop.invariant.0 room (subst (λ o. StillTells (g.I.Source.tells c.loop.input) (g.I.Source.tells c.next.new.self) (Takes (Ok o)))
    c.in_default.is c.in_ok-byte.ensures.bytes)

pub returns-then-byte-eq10-clause-fills : goal.returns-then-byte-eq10-clause-fills
returns-then-byte-eq10-clause-fills g c =
    let room : c.loop.counter < 4097 = omega arith in
    at_feed _ _ _ _ _ c.loop.invariant.0 room c.in-Some.byte c.if-byte-eq10.true
    (subst (λ o. StillTells (g.I.Source.tells c.loop.input) (g.I.Source.tells c.next.new.self) (Takes (Ok o))) c.in-Some.is c.in_ok-byte.ensures.bytes)

pub returns-clause-fills : goal.returns-clause-fills
returns-clause-fills g c =
    let full : 4097 ≤ c.loop.counter = omega arith in
    let most : c.loop.counter ≤ 4097 = omega arith in
    at_room _ _ (g.I.Source.tells c.loop.input) _ _ c.loop.invariant.0 full most

pub loop-init : goal.loop-init
loop-init g c = (nothing_taken _ _ c.clear.ensures, refl)

pub loop-preserved : goal.loop-preserved
loop-preserved g c = (
  one_more _ _ _ _ _ c.loop.invariant.0 _ c.in-Some.byte c.push.ensures c.if-byte-eq10.false
      (subst (λ o. StillTells (g.I.Source.tells c.loop.input) (g.I.Source.tells c.next.new.self) (Takes (Ok o))) c.in-Some.is c.in_ok-byte.ensures.bytes),
  c.in_ok-byte.ensures.faults ∙ c.loop.invariant.1,
)
