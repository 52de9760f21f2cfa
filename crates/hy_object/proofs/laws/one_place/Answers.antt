use Rattle.hy_object.proofs.Spelled as laws
use Rattle.hy_object.proofs.laws.one_place.Goals as goal

pub returns : goal.returns
returns c = laws.one_place
