use Rattle.hy_object.proofs.Changing as changing
use Rattle.hy_object.proofs.meaning.every_step_changes.Goals as goal

pub returns : goal.returns
returns c = changing.every_step_changes
