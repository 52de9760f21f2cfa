use Rattle.hy_tree.specs.Denotes.{decl_of}
use Rattle.hy_tree.specs.Tree as T
use Rattle.hy_check.specs.Facts.{decl_facts}
use Rattle.hy_check.proofs.NotedTypes.{IsNotingEach}
use Rattle.hy_check.proofs.checker.Checker.note_decls.Given as goal

abbrev pub invariant-loop-decl : goal.invariant-loop-decl
invariant-loop-decl l = IsNotingEach decl_of (λ source (decl : T.Decl). decl_facts source decl.kind) l.decls l.fn.self l.self l.decl-index
