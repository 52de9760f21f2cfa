-- What a call or a projection may start.
use Rattle.std.specs.Prelude.{◌≡◌, ◌<◌, ◌+◌, ◌^◌, ℕ, Some}
use Rattle.hy_object.specs.declared.instr.Instr.{Instr}
use Rattle.hy_object.specs.declared.object.Fun.{Fun}
use Rattle.hy_object.specs.declared.object.Object.{Object}
use Rattle.hy_object.specs.States.{Projected, nth}
use Rattle.hy_store.specs.Represents.{Reaches, abstract_role}
use Rattle.hy_checked.specs.declared.calls.Start.{Start}
use Rattle.hy_checked.specs.declared.machine.Machine.{Machine}
use Rattle.hy_checked.specs.Simulates.{IsAt}

-- The function of that number exists, with the words and slots that it is handed, and a subscript hands out to a slot of its
-- caller.
pub record CanStart (object : Object) (m : Machine) (fun callee : Fun) (what : Start) : Type 0 where
  pub instr : Instr
  pub here : IsAt object m fun instr
  pub callee_is : nth object.funs what.number ≡ Some callee
  pub reached : Reaches m.store callee.owned what.reach
  pub slots : what.slot + callee.accesses < 2 ^ 32
  pub into : (slot : ℕ) → abstract_role what.role ≡ Projected slot → slot < fun.slots
