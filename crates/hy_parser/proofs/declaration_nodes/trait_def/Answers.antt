use Rattle.std.proofs.Common.{refl}
use Rattle.hy_grammar.specs.Nodes as node
use Rattle.hy_parser.proofs.declaration_nodes.trait_def.Goals as goal

pub returns : goal.returns
unfolding node.trait
returns c = refl
