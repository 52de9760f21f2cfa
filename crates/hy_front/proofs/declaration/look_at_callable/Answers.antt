use Rattle.std.proofs.Common.{◌++◌, not, map, ap, ◌∙◌}
use Rattle.hy_tree.specs.Denotes.{param_of, variant_of, callable_of}
use Rattle.hy_front.specs.Noted.{note, after}
use Rattle.hy_front.specs.Unbuilt.{when, in_generics, in_params, in_written, in_variants}
use Rattle.hy_base.proofs.Walks.{then}
use Rattle.hy_front.proofs.declaration.look_at_callable.Goals as goal

pub returns : goal.returns
returns c =
    let r = c.look_at_variants.result in
    let meant = c.args.meant.now in
    let it = callable_of c.args.c.now in
    let variants = in_variants meant it.variants in
    let written = in_written it.result in
    let params = in_params it.params in
    then note (when (not c.args.main) it.at.span) (in_generics it.generics ++ (params ++ (written ++ variants))) c.args.first c.meet_when-first.result r
    c.meet_when-first.ensures
    (then note (in_generics it.generics) (params ++ (written ++ variants)) c.meet_when-first.result c.look_at_generics-first.result r
    (c.look_at_generics-first.ensures ∙ ap (λ generics. after (in_generics generics) c.meet_when-first.result) c.as_slice.ensures)
    (then note params (written ++ variants) c.look_at_generics-first.result c.look_at_params-first.result r
    (c.look_at_params-first.ensures ∙ ap (λ params. after (in_params (map param_of params)) c.look_at_generics-first.result) c.as_slice-2.ensures)
    (then note written variants c.look_at_params-first.result c.look_at_written-first.result r c.look_at_written-first.ensures
    (c.look_at_variants.ensures ∙ ap (λ variants. after (in_variants meant (map variant_of variants)) c.look_at_written-first.result) c.as_slice-3.ensures))))
