use Rattle.std.proofs.Common.{◌<◌, ◌≤◌, ℕ, length}
use Rattle.hy_cycles.specs.Standing.{at}
use Rattle.hy_cycles.proofs.walk.cut_to.Given as goal

abbrev pub invariant-loop-count : goal.invariant-loop-count
invariant-loop-count l = record {
  inside : l.count ≤ length l.list.items;
  past : (k : ℕ) → l.count ≤ k → k < length l.list.items → l.bound < at l.list.items k;
}

abbrev pub decreases-loop-count : goal.decreases-loop-count
decreases-loop-count l = l.count
