use Rattle.std.proofs.Common.{refl}
use Rattle.hy_driver.proofs.Ways.{follows_refusal, follows_want}
use Rattle.hy_driver.proofs.top.run_source.Goals as goal

pub returns-in-Err-Refused : goal.returns-in-Err-Refused
returns-in-Err-Refused g c =
    follows_refusal _ _ _ _ _ _ (rw c.in-Err-Refused.field-0-is at c.in-Err-Refused.ensures) (record {
      input_faults = refl;
      out_faults = refl;
      input =
          refl;
      out = refl;
    }) c.refuse.ensures

pub returns-in-Err-NoMemory : goal.returns-in-Err-NoMemory
returns-in-Err-NoMemory g c = follows_want _ _ _ _ _ (record { input_faults = refl; out_faults = refl; input = refl; out = refl }) c.bare.ensures
