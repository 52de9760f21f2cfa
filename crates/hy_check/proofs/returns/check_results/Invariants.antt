use Rattle.hy_tree.specs.Denotes.{decl_of}
use Rattle.hy_signatures.specs.Declarations.{Source}
use Rattle.hy_check.specs.Refusals as refusals
use Rattle.hy_check.proofs.Lists.{HasMet}
use Rattle.hy_check.proofs.returns.check_results.Given as goal

abbrev pub invariant-loop-decl : goal.invariant-loop-decl
invariant-loop-decl l = (source : Source) → HasMet decl_of (λ decl. refusals.t5 source decl.kind) l.decls l.decl-index l.fn.first l.first
