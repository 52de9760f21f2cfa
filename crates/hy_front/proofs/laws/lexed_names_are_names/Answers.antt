use Rattle.hy_front.proofs.LexedNames.{is_name}
use Rattle.hy_front.proofs.laws.lexed_names_are_names.Goals as goal

pub returns : goal.returns
returns c = is_name
