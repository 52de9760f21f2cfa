use Rattle.std.proofs.Common.{map, take}
use Rattle.hy_tree.specs.Denotes.{decl_of}
use Rattle.hy_signatures.specs.Declarations.{members_in, declares_copyable}
use Rattle.hy_signatures.specs.NamedShown.{named_shown}
use Rattle.hy_signatures.specs.OwnersShown.{Adds}
use Rattle.hy_signatures.specs.Shown.{source_shown}
use Rattle.hy_signatures.proofs.owners.Owners.add_decls.Given as goal

abbrev pub invariant-loop-decl : goal.invariant-loop-decl
invariant-loop-decl l =
    Adds l.fn.types l.types (source_shown l.source)
    (λ named. members_in (source_shown l.source) (named_shown named) (map decl_of (take l.decl-index l.decls)))
    (λ named. declares_copyable (source_shown l.source) (named_shown named) (map decl_of (take l.decl-index l.decls))) l.fn.self l.self
