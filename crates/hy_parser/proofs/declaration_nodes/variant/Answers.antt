use Rattle.std.proofs.Common.{Some, sym, ap}
use Rattle.hy_tree.specs.Denotes.{block_of}
use Rattle.hy_tree.specs.Tree as T
use Rattle.hy_grammar.specs.Nodes as node
use Rattle.hy_statements.proofs.StatementNodes.{block_at}
use Rattle.hy_parser.proofs.declaration_nodes.variant.Goals as goal

pub returns : goal.returns
unfolding node.variant
returns c = ap (λ (at : T.At). let made : T.Variant = record {
  mode = c.args.mode;
  keyword = Some c.args.keyword;
  value = c.args.value;
  block =
      block_of c.args.block;
  at = node.at c.args.keyword.from at.span.to;
} in made) (sym (block_at c.args.block))
