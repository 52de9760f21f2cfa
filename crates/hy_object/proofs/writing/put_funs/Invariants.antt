use Rattle.std.proofs.Common.{◌≡◌, ◌++◌, take, flat_map}
use Rattle.hy_object.specs.Bytes.{fun_bytes}
use Rattle.hy_object.proofs.writing.put_funs.Given as goal

abbrev pub invariant-loop-fun : goal.invariant-loop-fun
invariant-loop-fun l = l.out.items ≡ l.initial.out.items ++ flat_map fun_bytes (take l.fun-index l.funs)
