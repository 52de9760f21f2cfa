use Rattle.std.proofs.Common.{arith, ◌<◌, ◌∙◌}
use Rattle.hy_object.proofs.Steps.{no_signed_group, no_signed_byte, one_signed_group, more_signed_groups, signed_joined_none, signed_joined_some}
use Rattle.hy_object.proofs.number.+signed_groups.Goals as goal

pub returns-then-most-eq0 : goal.returns-then-most-eq0
returns-then-most-eq0 t c = no_signed_group _ _ c.if-most-eq0.true

pub returns-in_default : goal.returns-in_default
returns-in_default t c = no_signed_byte _ _ c.if-most-eq0.false c.in_default.ensures.cases

pub returns-then-first-lt128 : goal.returns-then-first-lt128
returns-then-first-lt128 t c = one_signed_group _ _ _ _ _ c.if-most-eq0.false c.in-Some.ensures.cases.0 c.if-first-lt128.true c.last_group.ensures

pub returns-in_default-signed_groups : goal.returns-in_default-signed_groups
returns-in_default-signed_groups t c = let below : c.in-Some.first.now < 256 = omega arith in
    more_signed_groups _ _ _ _ c.if-most-eq0.false c.in-Some.ensures.cases.0 c.if-first-lt128.false below
    ∙ signed_joined_none _ _ c.in_default-signed_groups.ensures

pub returns-in_default-with_group : goal.returns-in_default-with_group
returns-in_default-with_group t c = let below : c.in-Some.first.now < 256 = omega arith in
    more_signed_groups _ _ _ _ c.if-most-eq0.false c.in-Some.ensures.cases.0 c.if-first-lt128.false below
    ∙ signed_joined_some _ _ _ _ _ c.in-Some-signed_groups.ensures c.in_default-with_group.ensures

pub returns : goal.returns
returns t c = let below : c.in-Some.first.now < 256 = omega arith in
    more_signed_groups _ _ _ _ c.if-most-eq0.false c.in-Some.ensures.cases.0 c.if-first-lt128.false below
    ∙ signed_joined_some _ _ _ _ _ c.in-Some-signed_groups.ensures c.in-Some-with_group.ensures
