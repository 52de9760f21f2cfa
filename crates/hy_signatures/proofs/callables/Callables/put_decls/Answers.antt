use Rattle.std.proofs.Common.{◌+◌, take, map, refl}
use Rattle.hy_tree.specs.Denotes.{decl_of}
use Rattle.hy_signatures.specs.Declarations.{callable_at, callable_in}
use Rattle.hy_signatures.specs.Shown.{source_shown}
use Rattle.hy_signatures.proofs.CallableTables.{keeps_more, among_more}
use Rattle.hy_signatures.proofs.callables.Callables.put_decls.Goals as goal

pub loop-decl-preserved : goal.loop-decl-preserved
loop-decl-preserved c =
    keeps_more c.args.types.now c.loop-decl.types c.put_decl.new.types (source_shown c.args.source.now) c.args.self.now c.loop-decl.self
    c.put_decl.new.self (λ node. callable_at node (map decl_of (take c.loop-decl.decl-index c.args.decls.now)))
    (λ node. callable_in node (decl_of c.decl-item.result).kind) (λ node. callable_at node (map decl_of (take
    (c.loop-decl.decl-index + 1) c.args.decls.now)))
    c.loop-decl.invariant c.in_ok-put_decl.ensures
    (λ node. among_more (λ decl. callable_in node decl.kind) (callable_at node) refl (λ y more. refl) decl_of c.args.decls.now c.loop-decl.decl-index
    c.decl-item.result c.decl-item.is c.loop-decl-test.true)
