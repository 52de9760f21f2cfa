use Rattle.std.proofs.Common.{◌≡◌, ℕ, ◌+◌, List, ap, sym, ◌∙◌, arith}
use Rattle.hy_tree.specs.Denotes.{placed, stmt_kind_of, stmt_of, stmts_of, branch_of, block_of}
use Rattle.hy_tree.specs.Numbers.{count_stmt, count_stmts, number_stmt, number_stmts, count_block, number_block, count_branches, number_branches}
use Rattle.hy_tree.specs.Tree as T
use Rattle.hy_tree.specs.Tree.{stmts, branches}
use Rattle.hy_tree.specs.declared.statement.Block.{Block, out-Block, roll-Block}
use Rattle.hy_tree.specs.declared.statement.Stmt.{Stmt}
use Rattle.hy_tree.proofs.Equations.{block_is, made_block_is}
use Rattle.hy_tree.proofs.Counts.{count_branch, number_branch, numbered_stmts_are, counted_stmts_are, numbered_branches_are, counted_branches_are}
use Rattle.hy_tree.proofs.Lists.{numbers_closed}
use Rattle.hy_tree.proofs.number_statement.+statements.Goals as goal

pub number_stmt-returns : goal.number_stmt-returns
number_stmt-returns t c =
    let old = c.args.stmt.now in
    let h = c.in_ok-kind.ensures c.args.next.now (placed old.span old.node) c.in_ok-node.ensures.next in
    ((λ i. stmt_kind_of c.in_ok-kind.kind (placed old.span (c.in_ok-node.ensures.number i))) ∙ h.0, h.1)

numbered : (b : Block) (inside made : List Stmt) (node n next after : ℕ) → inside ≡ (out-Block b).stmts → node ≡ n → next ≡ n + 1 →
    (stmts_of made ≡ number_stmts next (stmts_of inside)) × (after ≡ next + count_stmts (stmts_of inside)) →
    (block_of (roll-Block (record { stmts = made; span = (out-Block b).span; node = node })) ≡ number_block n (block_of b))
    × (after ≡ n + count_block (block_of b))
numbered b inside made node n next after inside_is node_is next_is inner =
    let span = (out-Block b).span in
    let whole : block_of b ≡ T.Braces (stmts_of inside) (placed span (out-Block b).node) = block_is b
    ∙ (λ i. T.Braces (stmts_of ((sym inside_is) i)) (placed span (out-Block b).node)) in (
      made_block_is made span node ∙ (λ i. T.Braces (inner.0 i) (placed span (node_is i)))
          ∙ (λ i. T.Braces (number_stmts (next_is i) (stmts_of inside)) (placed span n)) ∙
          ap (number_block n) (sym whole),
      (let count : count_block (block_of b) ≡ 1 + count_stmts (stmts_of inside) = ap count_block whole in omega (arith, count, inner.1, next_is)),
    )

pub number_block-returns : goal.number_block-returns
number_block-returns t c =
    numbered c.args.block.now c.as_slice.result.now c.in_ok-stmts.stmts c.in_ok-node.node c.args.next.now c.take.new.next c.number_stmts.new.next
    c.as_slice.ensures c.in_ok-node.ensures.number c.in_ok-node.ensures.next c.in_ok-stmts.ensures

pub number_stmts-returns : goal.number_stmts-returns
number_stmts-returns t c =
    numbers_closed stmt_of count_stmt number_stmt c.args.next.now c.args.stmts.now stmts count_stmts number_stmts numbered_stmts_are counted_stmts_are
    c.loop-stmt.stmt-index c.loop-stmt.next c.loop-stmt.made c.loop-stmt-test.false c.loop-stmt.invariant

pub number_branches-returns : goal.number_branches-returns
number_branches-returns t c =
    numbers_closed branch_of count_branch number_branch c.args.next.now c.args.branches.now branches count_branches number_branches numbered_branches_are
    counted_branches_are
    c.loop-branch.branch-index c.loop-branch.next c.loop-branch.made c.loop-branch-test.false c.loop-branch.invariant
