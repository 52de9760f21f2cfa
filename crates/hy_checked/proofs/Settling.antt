-- The state that a machine simulates stays where its store settles.
use Rattle.std.specs.Prelude.{ℕ, Bool}
use Rattle.hy_object.specs.declared.object.Object.{Object}
use Rattle.hy_object.specs.declared.object.Fun.{Fun}
use Rattle.hy_object.specs.States.{State}
use Rattle.hy_runs.specs.Runs.{Told}
use Rattle.hy_store.specs.declared.store.Store.{Store}
use Rattle.hy_store.specs.Represents.{Ghosts, Represents}
use Rattle.hy_checked.specs.declared.machine.Machine.{Machine}
use Rattle.hy_checked.specs.Simulates.{Simulates}
use Rattle.hy_checked.specs.Progress.{RunReaches}

pub simulates_still : (object : Object) (m : Machine) (store : Store) (s : State)
    → ((g : Ghosts) (fun : Fun) (s : State) → Represents g m.store fun s → Represents g store fun s) → Simulates object m s
    → Simulates object (record m { store = store }) s
simulates_still object m store s represented h = record {
  ghosts = h.ghosts;
  represents = represented h.ghosts s.now.fun s h.represents;
  fun = h.fun;
  number = h.number;
  place = h.place;
  left = h.left;
  turns = h.turns;
  going = h.going;
  caller = h.caller;
  running = h.running;
  callers = h.callers;
  suspended = h.suspended;
  all = h.all;
  handed = h.handed;
  sliding = h.sliding;
}

-- the run has come to where it had
pub still_walks : (object : Object) (n : ℕ) (first next : Told) (ended : Bool) (old new : Machine)
    → ((object : Object) (s : State) → Simulates object old s → Simulates object new s) → RunReaches object n first next ended old
    → RunReaches object n first next ended new
still_walks object n first next ended old new still w = record {
  state = w.state;
  comes = w.comes;
  cut_is = w.cut_is;
  simulates = still object w.state w.simulates;
}
