use Rattle.hy_front.proofs.Phased.{one_tree_of}
use Rattle.hy_front.proofs.fronted.one_tree.Goals as goal

pub returns : goal.returns
returns c = one_tree_of c.one_list_of_tokens.ensures c.one_program.ensures
