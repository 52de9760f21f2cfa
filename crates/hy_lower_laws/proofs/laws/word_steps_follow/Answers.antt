use Rattle.hy_lower_laws.proofs.Following as following
use Rattle.hy_lower_laws.proofs.laws.word_steps_follow.Goals as goal

pub returns : goal.returns
returns c = following.word_steps_follow
