use Rattle.std.proofs.Common.{sym, ap}
use Rattle.hy_tree.specs.Denotes.{type_of}
use Rattle.hy_tree.specs.Tree as T
use Rattle.hy_grammar.specs.Nodes as node
use Rattle.hy_phrases.proofs.Widened.{type_at}
use Rattle.hy_parser.proofs.declaration_nodes.param.Goals as goal

pub returns : goal.returns
unfolding node.param
returns c = ap (λ (at : T.At). let made : T.Param = record {
  label = c.args.label;
  name = c.args.name;
  mode = c.args.mode;
  written =
      type_of c.args.written;
  at = node.at c.args.from at.span.to;
} in made) (sym (type_at c.args.written))
