use Rattle.hy_tree.specs.Denotes.{decl_of}
use Rattle.hy_tree.specs.Numbers.{count_decl}
use Rattle.hy_tree.proofs.Lists.{HasCounted}
use Rattle.hy_tree.proofs.count.decls_from.Given as goal

abbrev pub invariant-loop-decl : goal.invariant-loop-decl
invariant-loop-decl l = HasCounted decl_of count_decl l.fn.so_far l.decls l.decl-index l.total
