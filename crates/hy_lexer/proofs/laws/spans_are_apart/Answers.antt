use Rattle.hy_lexer.proofs.Spans.{apart}
use Rattle.hy_lexer.proofs.laws.spans_are_apart.Goals as goal

pub returns : goal.returns
returns c = apart
