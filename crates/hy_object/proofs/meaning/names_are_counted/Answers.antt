use Rattle.hy_object.proofs.Moving as moving
use Rattle.hy_object.proofs.meaning.names_are_counted.Goals as goal

pub returns : goal.returns
returns c = moving.names_are_counted
