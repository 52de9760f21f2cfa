use Rattle.std.proofs.Common.{◌≡◌, ◌++◌, length, map}
use Rattle.hy_core.specs.Denotes.{fun_of}
use Rattle.hy_lower.specs.Code as code
use Rattle.hy_lower.proofs.objects.funs.Given as goal

abbrev pub invariant-loop-fun : goal.invariant-loop-fun
invariant-loop-fun l = l.made ++ map (code.fun_of l.types l.sizes) (map fun_of l.left) ≡ map (code.fun_of l.types l.sizes) (map fun_of l.funs)

abbrev pub decreases-loop-fun : goal.decreases-loop-fun
decreases-loop-fun l = length l.left
