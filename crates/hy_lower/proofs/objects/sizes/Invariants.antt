use Rattle.std.proofs.Common.{◌≡◌, ◌≤◌, ◌<◌, ◌-◌, ℕ, length}
use Rattle.hy_types.specs.declared.kinds.TyId.{TyId}
use Rattle.hy_types.specs.Words.{HasWords}
use Rattle.hy_lower.specs.Frames.{size_of}
use Rattle.hy_lower.proofs.objects.sizes.Given as goal

abbrev pub invariant-loop-next : goal.invariant-loop-next
invariant-loop-next l = record {
  many : length l.sizes ≡ l.next.at;
  within : l.next.at ≤ length l.types.types;
  each : (t : TyId) (words : ℕ) → t.at < l.next.at → HasWords l.types t words → size_of l.sizes t ≡ words;
}

abbrev pub decreases-loop-next : goal.decreases-loop-next
decreases-loop-next l = length l.types.types - l.next.at
