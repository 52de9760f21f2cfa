use Rattle.std.proofs.Common.{◌≡◌}
use Rattle.hy_cycles.specs.Standing.{shown}
use Rattle.hy_cycles.proofs.Closing.{Ending}
use Rattle.hy_cycles.proofs.walk.Walk.close.Given as goal

abbrev pub invariant-loop-place : goal.invariant-loop-place
invariant-loop-place l = record {
  ending : Ending l.start l.place l.flag (shown l.fn.self) l.self.places.items l.self.flags.items;
  taken : l.self.taken ≡ l.fn.self.taken;
  path : l.self.path ≡ l.fn.self.path;
  starts : l.self.starts ≡ l.fn.self.starts;
  trail : l.self.trail ≡ l.fn.self.trail;
}
