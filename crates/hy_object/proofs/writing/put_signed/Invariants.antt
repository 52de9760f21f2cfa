use Rattle.std.proofs.Common.{◌≡◌, ◌++◌}
use Rattle.hy_object.specs.Numbers.{signed_bytes}
use Rattle.hy_object.proofs.writing.put_signed.Given as goal

abbrev pub invariant-loop-rest : goal.invariant-loop-rest
invariant-loop-rest l = l.out.items ++ signed_bytes l.negative l.rest ≡ l.initial.out.items ++ signed_bytes l.negative l.n

abbrev pub decreases-loop-rest : goal.decreases-loop-rest
decreases-loop-rest l = l.rest
