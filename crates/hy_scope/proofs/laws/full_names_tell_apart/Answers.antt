use Rattle.hy_scope.proofs.FullNames.{tell_apart}
use Rattle.hy_scope.proofs.laws.full_names_tell_apart.Goals as goal

pub returns : goal.returns
returns c = tell_apart
