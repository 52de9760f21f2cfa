use Rattle.hy_tree.proofs.Preorder.{program_numbers}
use Rattle.hy_tree.proofs.laws.numbers_are_in_preorder.Goals as goal

pub returns : goal.returns
returns c program = program_numbers program
