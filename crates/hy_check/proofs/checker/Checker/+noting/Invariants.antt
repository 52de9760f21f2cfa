use Rattle.hy_check.proofs.NotedTypes.{IsNoting}
use Rattle.hy_check.proofs.checker.Checker.+noting.Given as goal

abbrev pub invariant-note_all_written-loop-part : goal.invariant-note_all_written-loop-part
invariant-note_all_written-loop-part l = IsNoting l.parts l.fn.self l.self l.ids.items l.part-index
