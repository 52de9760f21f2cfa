use Rattle.std.proofs.Common.{◌≡◌, ◌≤◌, ◌+◌, ◌*◌, ℕ, length, map, []}
use Rattle.hy_tree.specs.Denotes.{stmt_of, branch_of}
use Rattle.hy_grammar.specs.Machine.{walk, most_levels}
use Rattle.hy_grammar.specs.OperandSteps.{beginning}
use Rattle.hy_statements.specs.ReadsStatements.{Opened, LoopSite}
use Rattle.hy_grammar.specs.Stack.{BlockOpened, StmtWanted, Operand, ForBranch, depth_place}
use Rattle.hy_statements.proofs.blocks.+blocks.Given as goal

abbrev pub invariant-read_block-stmts : goal.invariant-read_block-stmts
invariant-read_block-stmts l = record {
  within : length l.tokens.rest.now ≤ length l.fn.tokens.rest.now;
  reads : (total : ℕ) (x : Opened l.brace l.looping) → l.levels + depth_place x.place ≡ most_levels
      → walk total (BlockOpened x.place) l.fn.tokens.rest.now ≡ walk total (StmtWanted (map stmt_of l.stmts) x.place) l.tokens.rest.now;
}

abbrev pub decreases-read_block : goal.decreases-read_block
decreases-read_block l = 4 * l.levels + 3

abbrev pub decreases-read_stmt : goal.decreases-read_stmt
decreases-read_stmt l = 4 * l.levels + 2

abbrev pub decreases-read_if : goal.decreases-read_if
decreases-read_if l = 4 * l.levels + 1

abbrev pub decreases-read_while : goal.decreases-read_while
decreases-read_while l = 4 * l.levels + 1

abbrev pub decreases-read_braces : goal.decreases-read_braces
decreases-read_braces l = 4 * l.levels

abbrev pub decreases-read_block-stmts : goal.decreases-read_block-stmts
decreases-read_block-stmts l = length l.tokens.rest.now

abbrev pub invariant-read_if-branches : goal.invariant-read_if-branches
invariant-read_if-branches l = record {
  within : length l.tokens.rest.now ≤ length l.fn.tokens.rest.now;
  reads : (total : ℕ) (x : LoopSite l.looping) → l.levels + (depth_place x.site.place + 0) ≡ most_levels
      → walk total (Operand (beginning (ForBranch l.first.from [] l.first x.site.before x.site.place))) l.fn.tokens.rest.now ≡ walk total
      (Operand (beginning (ForBranch l.first.from (map branch_of l.branches) l.word x.site.before x.site.place))) l.tokens.rest.now;
}

abbrev pub decreases-read_if-branches : goal.decreases-read_if-branches
decreases-read_if-branches l = length l.tokens.rest.now
