use Rattle.std.proofs.Common.{refl}
use Rattle.std.specs.Fmt.{digits}
use Rattle.hy_core.specs.Examples.{Examples, LentPlaces, Subscripts, Deinitialisers, OneWay, Loops, Inputs, Operations}
use Rattle.hy_core.specs.Differences.{Differences}
use Rattle.hy_core.proofs.laws.examples.Goals as goal

places : LentPlaces
unfolding digits
places = record {
  field = (refl, refl);
  element = (refl, refl);
  twice = (refl, refl);
  inout = (refl, refl);
  set = (refl, refl);
  copy = (refl, refl);
}

subscripts : Subscripts
unfolding digits
subscripts = record {
  first = (refl, refl);
  last = (refl, refl);
  at_close = (refl, refl);
  early_end = (refl, refl);
  trap = (refl, refl);
  set_variant = (refl, refl);
}

deinitialisers : Deinitialisers
unfolding digits
deinitialisers = record {
  element = (refl, refl);
  whole = (refl, refl);
  in_part = (refl, refl);
  rows = (refl, refl);
  spent = (refl, refl);
  tree = (refl, refl);
  copy_spent = (refl, refl);
}

one_way : OneWay
unfolding digits
one_way = record {
  moved = (refl, refl);
  moved_not = (refl, refl);
  moved_checked = (refl, refl);
  moved_not_checked = (refl, refl);
  set = (refl, refl);
  set_not = (refl, refl);
  set_checked = (refl, refl);
  set_not_checked = (refl, refl);
}

loops : Loops
unfolding digits
loops = record {
  whole = (refl, refl);
  spent = (refl, refl);
  nothing = (refl, refl);
  left = (refl, refl);
}

inputs : Inputs
unfolding digits
inputs = record {
  in_range = (refl, refl);
  spaces = (refl, refl);
  above = (refl, refl);
  below = (refl, refl);
  empty = (refl, refl);
  bad = (refl, refl);
  cut = (refl, refl);
  cut_empty = (refl, refl);
  cut_behind = (refl, refl);
}

operations : Operations
unfolding digits
operations = record {
  array = (refl, refl);
  add = (refl, refl);
  add_overflow = (refl, refl);
  sub = (refl, refl);
  sub_overflow = (refl, refl);
  mul_overflow = (refl, refl);
  div = (refl, refl);
  rem = (refl, refl);
  div_nought = (refl, refl);
  rem_nought = (refl, refl);
  div_overflow = (refl, refl);
  rem_overflow = (refl, refl);
  precondition = (refl, refl);
}

differences : Differences
unfolding digits
differences = record {
  stale = (refl, refl);
  under_reader = (refl, refl);
  by_reader = (refl, refl);
  by_callee = (refl, refl);
  by_projection = (refl, refl);
  lent_on = (refl, refl);
  moved = (refl, refl);
  dropped = (refl, refl);
  writers = (refl, refl);
  again = (refl, refl);
  over = (refl, refl);
  early = (refl, refl);
  shut = (refl, refl);
  handed = (refl, refl);
  yielded = (refl, refl);
}

examples : Examples
examples = record {
  places = places;
  subscripts = subscripts;
  deinitialisers = deinitialisers;
  one_way = one_way;
  loops = loops;
  inputs = inputs;
  operations = operations;
}

pub returns-clause-calm : goal.returns-clause-calm
returns-clause-calm c = examples

pub returns-clause-differ : goal.returns-clause-differ
returns-clause-differ c = differences
