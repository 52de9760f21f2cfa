use Rattle.std.proofs.Common.{arith}
use Rattle.std.proofs.lemmas.Map.Text.{text_keys}
use Rattle.hy_base.proofs.contents.store_copy.Goals as goal

pub returns-clause-others : goal.returns-clause-others
returns-clause-others c = λ n differs. grind (arith, text_keys)
