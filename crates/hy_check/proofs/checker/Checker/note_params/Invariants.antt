use Rattle.hy_tree.specs.Denotes.{param_of}
use Rattle.hy_tree.specs.Tree as T
use Rattle.hy_check.specs.Facts.{param_facts}
use Rattle.hy_check.proofs.NotedTypes.{IsNotingEach}
use Rattle.hy_check.proofs.checker.Checker.note_params.Given as goal

abbrev pub invariant-loop-p : goal.invariant-loop-p
invariant-loop-p l = IsNotingEach param_of param_facts l.params l.fn.self l.self l.p-index
