use Rattle.hy_tree.specs.Denotes.{program_of}
use Rattle.hy_front.proofs.Phased.{all_named, all_built}
use Rattle.hy_driver.proofs.top.compile.Goals as goal

pub lower-requires-clause-numbered : goal.lower-requires-clause-numbered
lower-requires-clause-numbered c = let read = c.in_ok-tree.ensures.1.read in (read.2.0, read.2.2)

pub lower-requires-clause-named : goal.lower-requires-clause-named
lower-requires-clause-named c = all_named c.args.source.now (program_of c.in_ok-tree.tree) c.in_ok-tree.ensures.1

pub lower-requires-clause-built : goal.lower-requires-clause-built
lower-requires-clause-built c = all_built c.args.source.now (program_of c.in_ok-tree.tree) c.in_ok-tree.ensures.1
