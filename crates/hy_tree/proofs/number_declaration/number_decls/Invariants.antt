use Rattle.hy_tree.specs.Denotes.{decl_of}
use Rattle.hy_tree.specs.Numbers.{count_decl, number_decl}
use Rattle.hy_tree.proofs.Lists.{HasNumbered}
use Rattle.hy_tree.proofs.number_declaration.number_decls.Given as goal

abbrev pub invariant-loop-decl : goal.invariant-loop-decl
invariant-loop-decl l = HasNumbered decl_of count_decl number_decl l.fn.next l.decls l.decl-index l.made l.next
