use Rattle.std.proofs.Common.{◌≡◌, [], ◌∷◌, ◌++◌, sym, ◌∙◌}
use Rattle.hy_phrases.proofs.Alone.{popped_is, type_alone, type_tuple}
use Rattle.hy_phrases.proofs.type_nodes.types.Goals as goal

pub returns-then-len-eq1 : goal.returns-then-len-eq1
returns-then-len-eq1 c =
    let popped : c.args.parts ≡ c.pop.new.self ++ c.unwrap-alone.result ∷ [] = popped_is _ _ _ _ c.pop.ensures c.unwrap-alone.ensures in
    type_alone c.args.bracket c.args.close c.pop.new.self c.args.parts c.unwrap-alone.result (sym c.len.ensures ∙ c.if-len-eq1.true) popped

pub returns : goal.returns
returns c = type_tuple c.args.bracket c.args.close c.args.parts (λ h. c.if-len-eq1.false (c.len.ensures ∙ h))
