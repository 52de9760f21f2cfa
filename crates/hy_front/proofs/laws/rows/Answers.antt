use Rattle.std.proofs.Common.{refl}
use Rattle.hy_front.proofs.laws.rows.Goals as goal

pub returns : goal.returns
returns c = record {
  all_built = refl;
  also_built = refl;
  bare_place = refl;
  no_variable = refl;
  callee = refl;
  outer_block = refl;
  two_places =
      refl;
  the_first = refl;
  inner_first = refl;
}
