use Rattle.std.proofs.Common.{arith, ◌<◌, ◌≤◌, ◌^◌, ◌∙◌}
use Rattle.hy_object.proofs.Steps.{no_group, no_byte, one_group, more_groups, joined_none, joined_zero, joined_large, joined_some}
use Rattle.hy_object.proofs.number.+groups.Goals as goal

pub returns-then-most-eq0 : goal.returns-then-most-eq0
returns-then-most-eq0 t c = no_group _ _ c.if-most-eq0.true

pub returns-in_default : goal.returns-in_default
returns-in_default t c = no_byte _ _ c.if-most-eq0.false c.in_default.ensures.cases

pub returns-then-first-lt128 : goal.returns-then-first-lt128
returns-then-first-lt128 t c = one_group _ _ _ _ c.if-most-eq0.false c.in-Some.ensures.cases.0 c.if-first-lt128.true

pub returns-in_default-groups : goal.returns-in_default-groups
returns-in_default-groups t c = let below : c.in-Some.first.now < 256 = omega arith in
    more_groups _ _ _ _ c.if-most-eq0.false c.in-Some.ensures.cases.0 c.if-first-lt128.false below ∙ joined_none _ _ c.in_default-groups.ensures

pub returns-then-high-eq0 : goal.returns-then-high-eq0
returns-then-high-eq0 t c = let below : c.in-Some.first.now < 256 = omega arith in
    more_groups _ _ _ _ c.if-most-eq0.false c.in-Some.ensures.cases.0 c.if-first-lt128.false below
    ∙ joined_zero _ _ _ _ c.in-Some-groups.ensures c.if-high-eq0.true

pub returns-then-high : goal.returns-then-high
returns-then-high t c = let below : c.in-Some.first.now < 256 = omega arith in let large : 2 ^ 25 ≤ c.in-Some-groups.high = omega arith in
    more_groups _ _ _ _ c.if-most-eq0.false c.in-Some.ensures.cases.0 c.if-first-lt128.false below
    ∙ joined_large _ _ _ _ c.in-Some-groups.ensures c.if-high-eq0.false large

pub returns : goal.returns
returns t c = let below : c.in-Some.first.now < 256 = omega arith in let small : c.in-Some-groups.high < 2 ^ 25 = omega arith in
    more_groups _ _ _ _ c.if-most-eq0.false c.in-Some.ensures.cases.0 c.if-first-lt128.false below
    ∙ joined_some _ _ _ _ c.in-Some-groups.ensures c.if-high-eq0.false small
