use Rattle.hy_tree.specs.Denotes.{program_of}
use Rattle.hy_tree.proofs.Numbered.{made_numbered}
use Rattle.hy_tree.proofs.number_declaration.number.Goals as goal

pub returns-clause-numbered : goal.returns-clause-numbered
returns-clause-numbered c = made_numbered (program_of c.args.program.now) (program_of c.in_ok-made.made) c.in_ok-made.ensures.same c.in_ok-made.ensures.small
