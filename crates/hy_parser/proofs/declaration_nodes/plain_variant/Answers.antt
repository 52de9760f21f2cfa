use Rattle.std.proofs.Common.{None, sym}
use Rattle.hy_tree.specs.Denotes.{block_of}
use Rattle.hy_tree.specs.Tree as T
use Rattle.hy_grammar.specs.Nodes as node
use Rattle.hy_statements.proofs.StatementNodes.{block_at}
use Rattle.hy_parser.proofs.declaration_nodes.plain_variant.Goals as goal

pub returns : goal.returns
unfolding node.plain_variant
returns c = (λ i. let made : T.Variant = record {
  mode = c.plain_mode.ensures i;
  keyword = None;
  value = None;
  block = block_of c.args.block;
  at =
      sym (block_at c.args.block) i;
} in made)
