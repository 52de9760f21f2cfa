use Rattle.std.proofs.Common.{refl}
use Rattle.std.specs.Fmt.{digits}
use Rattle.hy_meaning.proofs.rows.Goals as goal

pub returns : goal.returns
unfolding digits
returns c = record { sum_is_printed = refl; sum_traps = refl; no_turn = refl }
