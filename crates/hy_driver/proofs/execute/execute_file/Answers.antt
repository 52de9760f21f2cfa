use Rattle.std.proofs.Common.{◌≡◌, ◌<◌, ◌≤◌, length, refl, inl, inr, rules}
use Rattle.hy_driver.specs.Executed.{longest_object}
use Rattle.hy_driver.proofs.Ways.{file_bad, file_want}
use Rattle.hy_driver.proofs.execute.execute_file.Goals as goal

pub returns-then-len : goal.returns-then-len
returns-then-len g c =
    let long : longest_object < length c.args.bytes.items = search rules in
    let place : c.from.result ≡ longest_object = search rules in
    file_bad _ _ _ _ _ c.from.result _ (inl (long, place)) (record { input_faults = refl; out_faults = refl; input = refl; out = refl }) c.refuse.ensures

pub returns-in-Err-Bad : goal.returns-in-Err-Bad
returns-in-Err-Bad g c =
    let short : length c.args.bytes.items ≤ longest_object = search rules in
    let exact = rw c.in-Err-Bad.field-0-is at c.in-Err-Bad.ensures.exact in
    file_bad _ _ _ _ _ _ _ (inr (short, rw c.deref.ensures.value at exact)) (record {
      input_faults = refl;
      out_faults = refl;
      input = refl;
      out =
          refl;
    }) (rw c.in-Err-Bad.field-0-is at c.refuse-in-Err-Bad.ensures)

pub returns : goal.returns
returns g c = file_want _ _ _ _ _ _ (record { input_faults = refl; out_faults = refl; input = refl; out = refl }) c.bare.ensures
