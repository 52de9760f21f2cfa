use Rattle.std.proofs.Common.{map, take}
use Rattle.hy_tree.specs.Denotes.{decl_of}
use Rattle.hy_signatures.specs.Declarations.{members_of_trait}
use Rattle.hy_signatures.specs.Shown.{source_shown}
use Rattle.hy_signatures.specs.TraitsShown.{AddsTraits}
use Rattle.hy_signatures.proofs.traits.Traits.add_decls.Given as goal

abbrev pub invariant-loop-decl : goal.invariant-loop-decl
invariant-loop-decl l =
    AddsTraits l.fn.types l.types (source_shown l.source) (λ node. members_of_trait node (map decl_of (take l.decl-index l.decls))) l.fn.self l.self
