use Rattle.hy_object.proofs.Spelled as laws
use Rattle.hy_object.proofs.laws.object_or_place.Goals as goal

pub returns : goal.returns
returns c = laws.object_or_place
