use Rattle.std.proofs.Common.{◌+◌, ◌++◌, ◌∷◌, [], ap, ◌∙◌, arith}
use Rattle.hy_object.specs.Numbers.{signed_bytes}
use Rattle.hy_object.proofs.Groups.{signed_last, signed_more, one_more, the_last}
use Rattle.hy_object.proofs.writing.put_signed.Goals as goal

pub loop-rest-preserved : goal.loop-rest-preserved
loop-rest-preserved c =
    one_more _ _ c.args.out.now.items _ _ (signed_bytes c.args.negative c.args.n) _ c.loop-rest.invariant
    (signed_more c.args.negative c.loop-rest.rest (omega arith) (omega arith))
    (c.in_ok-push.ensures.items ∙ ap (λ g. c.loop-rest.out.items ++ (128 + g) ∷ []) c.low_group.ensures)

pub returns : goal.returns
returns c =
    the_last _ _ c.args.out.now.items _ (signed_bytes c.args.negative c.args.n) _ c.loop-rest.invariant
    (signed_last c.args.negative c.loop-rest.rest (omega arith))
    (c.in_ok-push-2.ensures.items ∙ ap (λ g. c.loop-rest.out.items ++ g ∷ []) c.low_group-2.ensures)
