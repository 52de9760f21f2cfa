use Rattle.std.proofs.Common.{◌≡◌, refl, zero, suc, true, false}
use Rattle.std.specs.Prelude.{ℤ, pos, negsuc}
use Rattle.std.specs.Fmt.{digits}
use Rattle.hy_core.specs.Flowing.{Operates, RowsFlow}
use Rattle.hy_core.proofs.laws.flow_examples.Goals as goal

operates : (a b : ℤ) → Operates a b
operates (pos zero) (pos zero) = (refl, refl, refl, refl, refl)
operates (pos zero) (pos (suc m)) = (refl, refl, refl, refl, refl)
operates (pos zero) (negsuc m) = (refl, refl, refl, refl, refl)
operates (pos (suc n)) (pos zero) = (refl, refl, refl, refl, refl)
operates (pos (suc n)) (pos (suc m)) = (refl, refl, refl, refl, refl)
operates (pos (suc n)) (negsuc m) = (refl, refl, refl, refl, refl)
operates (negsuc n) (pos zero) = (refl, refl, refl, refl, refl)
operates (negsuc n) (pos (suc m)) = (refl, refl, refl, refl, refl)
operates (negsuc n) (negsuc m) = (refl, refl, refl, refl, refl)

pub returns-clause-calm : goal.returns-clause-calm
returns-clause-calm c = record {
  field = refl;
  element = refl;
  twice = refl;
  inout = refl;
  set = refl;
  copy = refl;
  first = refl;
  last = refl;
  at_close =
      refl;
  trap = refl;
  set_variant = refl;
  early_end = refl;
  old_element = refl;
  whole = refl;
  in_part = refl;
  rows = refl;
  tree = refl;
  moved = refl;
  moved_checked = refl;
  set_in_one = refl;
  set_in_one_checked = refl;
  loop = refl;
  left =
      refl;
  index = refl;
  array = refl;
  operations = operates;
  precondition = refl;
}

pub returns-clause-wild : goal.returns-clause-wild
returns-clause-wild c = record {
  stale = refl;
  under_reader = refl;
  by_reader = refl;
  by_callee = refl;
  by_projection = refl;
  lent_on = refl;
  moved =
      refl;
  dropped = refl;
  writers = refl;
  again = refl;
  over = refl;
  early = refl;
  shut = refl;
  handed = refl;
  yielded = refl;
}

pub returns-clause-flawed : goal.returns-clause-flawed
returns-clause-flawed c = record {
  elements = refl;
  moved = refl;
  index = refl;
  over = refl;
  copied = refl;
  read = refl;
  dropped = refl;
  left =
      refl;
  left_open = refl;
  closed = refl;
  twice = refl;
  inout = refl;
  reader = refl;
  given_up = refl;
  yields = refl;
  never = refl;
  held = refl;
  loop =
      refl;
  branch = refl;
}

pub returns-clause-mended : goal.returns-clause-mended
returns-clause-mended c = record { elements = refl; filled = refl; inout = refl; yields = refl; copied = refl }

pub returns-clause-doubtful : goal.returns-clause-doubtful
returns-clause-doubtful c = record {
  read = refl;
  moved = refl;
  lent = refl;
  read_checked = refl;
  where_set = refl;
  where_unset = refl;
  wrongly = refl;
  no_more = refl;
  over = refl;
  dropped = refl;
  left = refl;
  passes = refl;
  branch = refl;
}

lost : true ≡ false → ⊥
lost e = absurd (cc)

rows : RowsFlow
unfolding digits
rows = record {
  freed = refl;
  dropped = refl;
  without = refl;
  swapped_out = refl;
  in_turn = refl;
  with_one = refl;
  at_once = refl;
  counted = refl;
  where_none = refl;
  where_some = refl;
  freed_loses = λ h. lost ((h 9).1.1.1.1.1.1.1.1.0.0);
  dropped_loses = λ h. lost ((h 9).1.1.1.1.1.1.1.1.0.0);
  runs = (refl, refl);
  runs_in_turn = (refl, refl);
}

pub returns-clause-rows : goal.returns-clause-rows
returns-clause-rows c = rows
