use Rattle.std.proofs.Common.{sym, ap, ◌∙◌, flat_map}
use Rattle.hy_tree.specs.Tree as T
use Rattle.hy_check.specs.Noted.{after}
use Rattle.hy_tree.specs.Denotes.{decl_of}
use Rattle.hy_check.specs.Refusals as refusals
use Rattle.hy_check.proofs.Lists.{met_more, met_all}
use Rattle.hy_check.proofs.returns.check_results.Goals as goal

pub loop-decl-preserved : goal.loop-decl-preserved
loop-decl-preserved c source =
    met_more decl_of (λ decl. refusals.t5 source decl.kind) c.args.decls.now c.loop-decl.decl-index
    c.args.first c.loop-decl.first c.check_decl-first.result c.decl-item.result
    c.decl-item.is c.loop-decl-test.true (c.loop-decl.invariant source) (c.check_decl-first.ensures source)

pub returns : goal.returns
returns c source same =
    met_all decl_of (λ decl. refusals.t5 source decl.kind) c.args.decls.now c.loop-decl.decl-index c.args.first c.loop-decl.first c.loop-decl-test.false
    (c.loop-decl.invariant source) ∙ ap (λ decls. after (flat_map (λ (decl : T.Decl). refusals.t5 source decl.kind) decls) c.args.first) (sym same)
