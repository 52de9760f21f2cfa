use Rattle.std.proofs.Common.{refl}
use Rattle.hy_signatures.proofs.owners.Owner.new.Goals as goal

pub returns : goal.returns
returns c table source = record { members = c.new.ensures table source; copyable = refl }
