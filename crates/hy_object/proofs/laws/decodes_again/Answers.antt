use Rattle.hy_object.proofs.Spelled as laws
use Rattle.hy_object.proofs.laws.decodes_again.Goals as goal

pub returns : goal.returns
returns c = laws.decodes_again
