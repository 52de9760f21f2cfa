use Rattle.std.proofs.Common.{◌++◌, refl}
use Rattle.hy_tree.specs.Denotes.{expr_of}
use Rattle.hy_tree.specs.Findings.{find_expr}
use Rattle.hy_scope.specs.Shown.{around_of, blocks_of, noted}
use Rattle.hy_scope.proofs.Walks.{found_rest}
use Rattle.hy_scope.proofs.statement.walk_two.Goals as goal

pub returns : goal.returns
returns c =
    let first = find_expr (around_of c.args.around.now) (blocks_of c.args.blocks.now) (expr_of c.args.first.now) in
    let second = find_expr (around_of c.args.around.now) (blocks_of c.args.blocks.now) (expr_of c.args.second.now) in
    found_rest c.walk_expr-2.result (first ++ second) first second (noted c.args.notes.now) (noted c.walk_expr.new.notes) (noted c.walk_expr-2.new.notes)
    refl c.in_ok-walk_expr.ensures c.walk_expr-2.ensures
