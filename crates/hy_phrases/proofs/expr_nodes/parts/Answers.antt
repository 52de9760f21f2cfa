use Rattle.std.proofs.Common.{◌≡◌, [], ◌∷◌, ◌++◌, sym, ap, ◌∙◌}
use Rattle.hy_tree.specs.Denotes.{placed, expr_kind_of}
use Rattle.hy_tree.specs.declared.expression.ExprKind.TheVariants as E
use Rattle.hy_phrases.proofs.Alone.{popped_is, expr_alone, expr_tuple}
use Rattle.hy_phrases.proofs.expr_nodes.parts.Goals as goal

pub returns-then-len-eq1 : goal.returns-then-len-eq1
returns-then-len-eq1 c =
    let popped : c.args.parts ≡ c.pop.new.self ++ c.unwrap-alone.result ∷ [] = popped_is _ _ _ _ c.pop.ensures c.unwrap-alone.ensures in
    ap (λ span. expr_kind_of c.unwrap-alone.result.kind (placed span c.unwrap-alone.result.node)) c.between-span.ensures
    ∙ expr_alone c.args.bracket c.args.close c.pop.new.self c.args.parts c.unwrap-alone.result (sym c.len.ensures ∙ c.if-len-eq1.true) popped

pub returns : goal.returns
returns c = ap (λ span. expr_kind_of (E.Tuple c.args.parts) (placed span 0)) c.between-span.ensures
    ∙ expr_tuple c.args.bracket c.args.close c.args.parts (λ h. c.if-len-eq1.false (c.len.ensures ∙ h))
