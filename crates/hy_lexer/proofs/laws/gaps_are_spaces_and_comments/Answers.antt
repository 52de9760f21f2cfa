use Rattle.hy_lexer.proofs.Spans.{gaps_between}
use Rattle.hy_lexer.proofs.laws.gaps_are_spaces_and_comments.Goals as goal

pub returns : goal.returns
returns c = gaps_between
