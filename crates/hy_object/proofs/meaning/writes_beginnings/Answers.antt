use Rattle.hy_object.proofs.Written as written
use Rattle.hy_object.proofs.meaning.writes_beginnings.Goals as goal

pub returns : goal.returns
returns c = written.writes_beginnings
