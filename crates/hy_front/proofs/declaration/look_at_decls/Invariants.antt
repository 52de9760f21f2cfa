use Rattle.std.proofs.Common.{map}
use Rattle.hy_tree.specs.Denotes.{decl_of}
use Rattle.hy_front.specs.Unbuilt.{in_decls}
use Rattle.hy_base.proofs.Walks.{HasWalked}
use Rattle.hy_front.specs.Noted.{note}
use Rattle.hy_front.proofs.declaration.look_at_decls.Given as goal

abbrev pub invariant-loop-decl : goal.invariant-loop-decl
invariant-loop-decl l = HasWalked note (λ (s : Unit {0}) xs. in_decls l.meant (map decl_of xs)) tt l.decls l.fn.first l.decl-index tt l.first
