use Rattle.hy_tree.proofs.Numbered.{each_once}
use Rattle.hy_tree.proofs.laws.each_number_is_one_node.Goals as goal

pub returns : goal.returns
returns c = each_once
