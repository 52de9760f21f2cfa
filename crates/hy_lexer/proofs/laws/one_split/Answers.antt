use Rattle.hy_lexer.proofs.Spans.{one_split}
use Rattle.hy_lexer.proofs.laws.one_split.Goals as goal

pub returns : goal.returns
returns c = one_split
