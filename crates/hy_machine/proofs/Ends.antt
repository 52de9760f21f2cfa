-- Steps of the program's machine, one after the other; an ended run stays.
use Rattle.std.proofs.Common.{◌≡◌, ℕ, zero, suc, ◌+◌, Option, Some, refl, ap, ◌∙◌, zero-add, suc-add}
use Rattle.hy_object.specs.declared.object.Object.{Object}
use Rattle.hy_object.specs.States.{Stop}
use Rattle.hy_machine.specs.Machine.{State, step, steps, next}

-- k steps and j more
pub steps_add : (object : Object) (k j : ℕ) (s : State) → steps object (k + j) s ≡ steps object j (steps object k s)
steps_add object zero j s = rw zero-add refl
steps_add object (suc k) j s = rw suc-add (steps_add object k j (step object s))

next_ended : (object : Object) (s : State) (o : Option Stop) (e : Stop) → o ≡ Some e → next object s o ≡ s
next_ended object s o e h = rw h refl

pub ended_stays : (object : Object) (j : ℕ) (s : State) (e : Stop) → s.stop ≡ Some e → steps object j s ≡ s
ended_stays object zero s e h = refl
ended_stays object (suc j) s e h = ap (steps object j) (next_ended object s s.stop e h) ∙ ended_stays object j s e h
