use Rattle.std.proofs.Common.{◌++◌, length, arith}
use Rattle.hy_tree.specs.Denotes.{stmts_of}
use Rattle.hy_driver.specs.Lower.{block_code, block_spans, declared}
use Rattle.hy_driver.proofs.Extends.{at_item, stmt_put}
use Rattle.hy_driver.proofs.lower.Draft.block.Goals as goal

pub loop-stmt-preserved : goal.loop-stmt-preserved
loop-stmt-preserved c =
    let xs = c.args.stmts.now in
    let self = c.args.self.now in
    let h = stmt_put c.loop-stmt.stmt-index xs c.stmt-item.result c.loop-stmt.scope c.stmt.new.scope (declared c.args.scope.now (stmts_of xs))
    c.loop-stmt.self.code c.stmt.new.self.code c.loop-stmt.self.spans c.stmt.new.self.spans
    (λ rest. self.code ++ block_code c.args.scope.now (length self.spans) (stmts_of xs) rest) (λ rest. self.spans ++ block_spans (stmts_of xs) rest)
    (at_item xs c.loop-stmt.stmt-index c.stmt-item.result (omega (arith, c.loop-stmt-test.true)) c.stmt-item.is) c.in_ok-stmt.ensures.scope
    c.in_ok-stmt.ensures.code c.in_ok-stmt.ensures.spans
    c.loop-stmt.invariant.names c.loop-stmt.invariant.code c.loop-stmt.invariant.spans in
    record { names = h.0; code = h.1; spans = h.2 }
