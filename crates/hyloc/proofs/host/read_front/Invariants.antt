use Rattle.std.proofs.Common.{◌≤◌, ◌-◌, vec_len}
use Rattle.hyloc.proofs.host.read_front.Given as goal

abbrev pub invariant-loop-piece : goal.invariant-loop-piece
invariant-loop-piece g l = vec_len l.bytes ≤ l.wanted

abbrev pub decreases-loop-piece : goal.decreases-loop-piece
decreases-loop-piece g l = l.wanted - vec_len l.bytes
