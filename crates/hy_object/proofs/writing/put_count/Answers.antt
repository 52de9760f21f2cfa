use Rattle.std.proofs.Common.{arith}
use Rattle.hy_object.specs.Numbers.{count_bytes}
use Rattle.hy_object.proofs.Groups.{count_last, count_more, one_more, the_last}
use Rattle.hy_object.proofs.writing.put_count.Goals as goal

pub loop-rest-preserved : goal.loop-rest-preserved
loop-rest-preserved c =
    one_more _ _ c.args.out.now.items _ _ (count_bytes c.args.n) _ c.loop-rest.invariant (count_more c.loop-rest.rest (omega arith) (omega arith))
    c.in_ok-push.ensures.items

pub returns : goal.returns
returns c = the_last _ _ c.args.out.now.items _ (count_bytes c.args.n) _ c.loop-rest.invariant (count_last c.loop-rest.rest (omega arith))
    c.in_ok-push-2.ensures.items
