use Rattle.std.proofs.Common.{◌+◌, List, map, take, take_all, subst}
use Rattle.hy_tree.specs.declared.declaration.Decl.{Decl}
use Rattle.hy_signatures.specs.OwnersShown.{Adds}
use Rattle.hy_tree.specs.Denotes.{decl_of}
use Rattle.hy_signatures.specs.Declarations.{members_for, members_in, declared_copyable, declares_copyable}
use Rattle.hy_signatures.specs.NamedShown.{named_shown}
use Rattle.hy_signatures.specs.Shown.{source_shown}
use Rattle.hy_signatures.proofs.OwnerTables.{adds_more, members_longer, copyable_longer}
use Rattle.hy_signatures.proofs.owners.Owners.add_decls.Goals as goal

pub loop-decl-preserved : goal.loop-decl-preserved
loop-decl-preserved c =
    let source = source_shown c.args.source.now in
    let all = c.args.decls.now in
    let k = c.loop-decl.decl-index in
    let decl = decl_of c.decl-item.result in
    adds_more c.args.types.now c.loop-decl.types c.add_decl.new.types source c.args.self.now c.loop-decl.self c.add_decl.new.self
    (λ named. members_in source (named_shown named) (map decl_of (take k all))) (λ named. members_for source (named_shown named) decl.kind)
    (λ named. members_in source (named_shown named) (map decl_of (take (k + 1) all)))
    (λ named. declares_copyable source (named_shown named) (map decl_of (take k all))) (λ named. declared_copyable source (named_shown named) decl.kind)
    (λ named. declares_copyable source (named_shown named) (map decl_of (take (k + 1) all)))
    c.loop-decl.invariant c.in_ok-add_decl.ensures
    (λ named. members_longer source (named_shown named) all k c.decl-item.result c.decl-item.is c.loop-decl-test.true)
    (λ named. copyable_longer source (named_shown named) all k c.decl-item.result c.decl-item.is c.loop-decl-test.true)

pub returns : goal.returns
returns c =
    let source = source_shown c.args.source.now in
    subst (λ (decls : List Decl). Adds c.args.types.now c.loop-decl.types source (λ named. members_in source (named_shown named) (map decl_of decls))
    (λ named. declares_copyable source (named_shown named) (map decl_of decls)) c.args.self.now c.loop-decl.self)
    (take_all c.loop-decl.decl-index c.args.decls.now c.loop-decl-test.false) c.loop-decl.invariant
