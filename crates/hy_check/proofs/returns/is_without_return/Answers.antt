use Rattle.std.proofs.Common.{◌&&◌, refl, sym, ap, ◌∙◌}
use Rattle.hy_tree.specs.Denotes.{block_of, variant_of}
use Rattle.hy_check.specs.Returns as returns
use Rattle.hy_check.proofs.returns.is_without_return.Goals as goal

pub returns-then-has_result : goal.returns-then-has_result
returns-then-has_result c source =
    c.ends.ensures ∙ ap (λ wanted. wanted && returns.ends (block_of c.args.v.now.block))
    (sym c.if-has_result.true ∙ c.has_result.ensures source (variant_of c.args.v.now) refl)

pub returns-else-has_result : goal.returns-else-has_result
returns-else-has_result c source =
    c.if-has_result.false ∙ ap (λ wanted. wanted && returns.ends (block_of c.args.v.now.block))
    (sym c.if-has_result.false ∙ c.has_result.ensures source (variant_of c.args.v.now) refl)
