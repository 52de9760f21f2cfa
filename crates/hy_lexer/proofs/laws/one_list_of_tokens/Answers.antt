use Rattle.hy_lexer.proofs.Spans.{one_list}
use Rattle.hy_lexer.proofs.laws.one_list_of_tokens.Goals as goal

pub returns : goal.returns
returns c = one_list
