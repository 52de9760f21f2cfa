use Rattle.std.proofs.Common.{refl}
use Rattle.std.specs.Fmt.{digits}
use Rattle.hy_lower.specs.Examples.{Codes, LentPlaces, Subscripts, OneWay, Loops, Inputs, Operations}
use Rattle.hy_lower.proofs.laws.examples.Goals as goal

codes : Codes
codes = record { field = refl; element = refl; twice = refl; loop = refl }

places : LentPlaces
unfolding digits
places = record {
  field = (refl, refl);
  element = refl;
  twice = (refl, refl);
  inout = (refl, refl);
  set = (refl, refl);
  copy = (refl, refl);
}

subscripts : Subscripts
unfolding digits
subscripts = record {
  first = (refl, refl);
  last = (refl, refl);
  at_close = (refl, refl);
  trap = refl;
  set_variant = (refl, refl);
}

one_way : OneWay
unfolding digits
one_way = record { moved = (refl, refl); moved_not = (refl, refl) }

loops : Loops
unfolding digits
loops = record { whole = (refl, refl); spent = refl; nothing = refl; left = (refl, refl) }

inputs : Inputs
unfolding digits
inputs = record { in_range = (refl, refl); above = refl; bad = refl; cut = refl }

operations : Operations
unfolding digits
operations = record {
  array = refl;
  add = (refl, refl);
  add_overflow = refl;
  sub = (refl, refl);
  mul_overflow = refl;
  div = (refl, refl);
  rem = (refl, refl);
  div_nought = refl;
  rem_overflow = refl;
  precondition = refl;
}

pub returns : goal.returns
returns c = record {
  codes = codes;
  places = places;
  subscripts = subscripts;
  one_way = one_way;
  loops = loops;
  inputs = inputs;
  operations = operations;
}
