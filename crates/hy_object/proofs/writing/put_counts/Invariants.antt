use Rattle.std.proofs.Common.{◌≡◌, ◌++◌, take, flat_map}
use Rattle.hy_object.specs.Numbers.{count_bytes}
use Rattle.hy_object.proofs.writing.put_counts.Given as goal

abbrev pub invariant-loop-n : goal.invariant-loop-n
invariant-loop-n l = l.out.items ≡ l.initial.out.items ++ flat_map count_bytes (take l.n-index l.row)
