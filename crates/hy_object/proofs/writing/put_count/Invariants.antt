use Rattle.std.proofs.Common.{◌≡◌, ◌++◌}
use Rattle.hy_object.specs.Numbers.{count_bytes}
use Rattle.hy_object.proofs.writing.put_count.Given as goal

abbrev pub invariant-loop-rest : goal.invariant-loop-rest
invariant-loop-rest l = l.out.items ++ count_bytes l.rest ≡ l.initial.out.items ++ count_bytes l.n

abbrev pub decreases-loop-rest : goal.decreases-loop-rest
decreases-loop-rest l = l.rest
