use Rattle.hy_grammar_laws.proofs.CompleteDecls.{complete}
use Rattle.hy_grammar_laws.proofs.laws.one_program.Goals as goal

pub returns : goal.returns
returns c = λ tokens one other a b. let p = complete tokens one a in let q = complete tokens other b in cc
