use Rattle.hy_tree.proofs.Nodes.{program_counts}
use Rattle.hy_tree.proofs.Numbered.{same_count}
use Rattle.hy_tree.proofs.laws.each_node_has_a_number.Goals as goal

pub returns : goal.returns
returns c = record { has = program_counts; keeps = same_count }
