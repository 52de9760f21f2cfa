use Rattle.hy_object.proofs.CutOff as cut
use Rattle.hy_object.proofs.meaning.cut_runs_agree.Goals as goal

pub returns : goal.returns
returns c = cut.cut_runs_agree
