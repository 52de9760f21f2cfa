-- Where the nodes stand of which statements are made.
use Rattle.std.proofs.Common.{◌≡◌, ℕ, List, map, Some, None, sym, ap, ◌∙◌}
use Rattle.hy_base.specs.declared.position.Span.{Span}
use Rattle.hy_tree.proofs.Equations.{stmt_variants, made_block_is, block_is, if_is, while_is}
use Rattle.hy_tree.specs.Denotes.{placed, expr_of, stmt_kind_of, block_of, branch_of}
use Rattle.hy_tree.specs.declared.expression.Expr.{Expr}
use Rattle.hy_tree.specs.declared.statement.Block.{Block, out-Block}
use Rattle.hy_tree.specs.declared.statement.Branch.{Branch}
use Rattle.hy_tree.specs.declared.statement.StmtKind.TheVariants as K
use Rattle.hy_tree.specs.Tree as T
use Rattle.hy_grammar.specs.Nodes as node
use Rattle.hy_phrases.proofs.Widened.{expr_at, type_at}

pub block_at : (b : Block) → T.at_block (block_of b) ≡ placed (out-Block b).span (out-Block b).node
block_at b = ap T.at_block (block_is b)

pub ruleset stmt_parts = (stmt_variants, made_block_is, type_at, expr_at, block_at)

-- `while` is no name in an attribute of the code.
pub made_while : (word : Span) (condition : Expr) (body : Block)
    → stmt_kind_of (K.While word condition body) (node.at word.from (out-Block body).span.to) ≡ node.while word (expr_of condition) (block_of body)
unfolding node.while
made_while word condition body = while_is word condition body _
    ∙ ap (λ to. T.While word (expr_of condition) (block_of body) (node.at word.from to)) (sym (ap (λ at. at.span.to) (block_at body)))

pub made_if : (from : ℕ) (branches : List Branch) (to : ℕ) → stmt_kind_of (K.If branches None) (node.at from to)
    ≡ node.if_only from (map branch_of branches) to
unfolding node.if_only
made_if from branches to = if_is branches None (node.at from to)

pub made_if_else : (from : ℕ) (branches : List Branch) (otherwise : Block)
    → stmt_kind_of (K.If branches (Some otherwise)) (node.at from (out-Block otherwise).span.to) ≡ node.if_block from (map branch_of branches)
    (block_of otherwise)
unfolding node.if_block
made_if_else from branches otherwise =
    if_is branches (Some otherwise) (node.at from (out-Block otherwise).span.to)
    ∙ ap (λ to. T.If (T.branches (map branch_of branches)) (T.Else (block_of otherwise)) (node.at from to)) (sym (ap (λ at. at.span.to) (block_at otherwise)))
