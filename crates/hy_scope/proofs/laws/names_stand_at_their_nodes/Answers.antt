use Rattle.hy_scope.proofs.FoundTable.{has_found_names}
use Rattle.hy_scope.proofs.laws.names_stand_at_their_nodes.Goals as goal

pub returns : goal.returns
returns c = has_found_names
