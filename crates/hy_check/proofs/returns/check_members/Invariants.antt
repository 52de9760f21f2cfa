use Rattle.hy_tree.specs.Denotes.{member_of}
use Rattle.hy_signatures.specs.Declarations.{Source}
use Rattle.hy_check.specs.Refusals as refusals
use Rattle.hy_check.proofs.Lists.{HasMet}
use Rattle.hy_check.proofs.returns.check_members.Given as goal

abbrev pub invariant-loop-member : goal.invariant-loop-member
invariant-loop-member l = (source : Source) → HasMet member_of (refusals.member_t5 source) l.members l.member-index l.fn.first l.first
