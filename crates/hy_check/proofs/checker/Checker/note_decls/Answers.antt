use Rattle.hy_tree.specs.Denotes.{decl_of}
use Rattle.hy_tree.specs.Tree as T
use Rattle.hy_check.specs.Facts.{decl_facts}
use Rattle.hy_check.proofs.NotedTypes.{each_start, each_more, each_end}
use Rattle.hy_check.proofs.checker.Checker.note_decls.Goals as goal

pub loop-decl-init : goal.loop-decl-init
loop-decl-init c = each_start decl_of (λ source (decl : T.Decl). decl_facts source decl.kind) c.args.decls.now c.args.self.now c.requires

pub loop-decl-preserved : goal.loop-decl-preserved
loop-decl-preserved c =
    each_more decl_of (λ source (decl : T.Decl). decl_facts source decl.kind)
    c.args.decls.now c.args.self.now c.loop-decl.self c.note_decl.new.self c.loop-decl.decl-index c.decl-item.result c.decl-item.is c.loop-decl-test.true
    c.loop-decl.invariant c.in_ok-note_decl.ensures.right c.in_ok-note_decl.ensures.learns

pub returns-clause-learns : goal.returns-clause-learns
returns-clause-learns c =
    each_end decl_of (λ source (decl : T.Decl). decl_facts source decl.kind)
    c.args.decls.now c.args.self.now c.loop-decl.self c.loop-decl.decl-index c.loop-decl-test.false c.loop-decl.invariant
