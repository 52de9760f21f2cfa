use Rattle.std.proofs.Common.{◌∙◌, ◌++◌, length, arith}
use Rattle.hy_tree.specs.Denotes.{links_of}
use Rattle.hy_driver.specs.Lower.{more_code, more_spans}
use Rattle.hy_driver.proofs.Extends.{at_item, item_put}
use Rattle.hy_driver.proofs.lower.Draft.add.Goals as goal

pub loop-link-preserved : goal.loop-link-preserved
loop-link-preserved c =
    let xs = c.args.links.now in
    let h = item_put c.args.scope.now c.loop-link.link-index xs c.link-item.result c.in_ok-next.next c.in_ok-count.field-0 c.loop-link.self.code
    c.put.new.list c.put-in-loop-link.new.list c.loop-link.self.spans c.put-in-loop-link-2.new.list
    (λ rest. c.args.self.now.code ++ more_code c.args.scope.now (length c.args.self.now.spans) (links_of xs) rest) (λ rest.
    c.args.self.now.spans ++ more_spans (links_of xs) rest)
    (at_item xs c.loop-link.link-index c.link-item.result (omega (arith, c.loop-link-test.true)) c.link-item.is) c.in_ok-next.ensures
    (c.in_ok-count.ensures.same ∙ c.len.ensures)
    c.in_ok-put.ensures c.in_ok-put-2.ensures c.in_ok-put-3.ensures c.loop-link.invariant.code c.loop-link.invariant.spans in
    record { code = h.0; spans = h.1 }
