use Rattle.hy_tree.specs.Denotes.{variant_of, callable_of}
use Rattle.hy_signatures.specs.Declarations.{Source}
use Rattle.hy_check.specs.Refusals as refusals
use Rattle.hy_check.proofs.Lists.{HasMet}
use Rattle.hy_check.proofs.returns.check_callable.Given as goal

abbrev pub invariant-loop-v : goal.invariant-loop-v
invariant-loop-v l = (source : Source) → HasMet variant_of (refusals.without_return source (callable_of l.c)) l.v-items l.v-index l.fn.first l.first
