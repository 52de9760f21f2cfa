use Rattle.hy_types.proofs.Settling.{Passes}
use Rattle.hy_types.proofs.sizes.settle_once.Given as goal

abbrev pub invariant-loop-place : goal.invariant-loop-place
invariant-loop-place l = Passes l.types l.products.entries l.initial.sizes l.sizes l.changed l.place
