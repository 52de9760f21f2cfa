use Rattle.std.proofs.Common.{take, map}
use Rattle.hy_tree.specs.Denotes.{decl_of}
use Rattle.hy_signatures.specs.CallablesShown.{Keeps}
use Rattle.hy_signatures.specs.Declarations.{callable_at}
use Rattle.hy_signatures.specs.Shown.{source_shown}
use Rattle.hy_signatures.proofs.callables.Callables.put_decls.Given as goal

abbrev pub invariant-loop-decl : goal.invariant-loop-decl
invariant-loop-decl l =
    Keeps l.fn.types l.types (source_shown l.source) l.fn.self l.self (λ node. callable_at node (map decl_of (take l.decl-index l.decls)))
