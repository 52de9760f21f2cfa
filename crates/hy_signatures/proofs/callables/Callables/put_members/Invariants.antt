use Rattle.std.proofs.Common.{take, map}
use Rattle.hy_tree.specs.Denotes.{member_of}
use Rattle.hy_signatures.specs.CallablesShown.{Keeps}
use Rattle.hy_signatures.specs.Declarations.{callable_among}
use Rattle.hy_signatures.specs.Shown.{source_shown}
use Rattle.hy_signatures.proofs.callables.Callables.put_members.Given as goal

abbrev pub invariant-loop-member : goal.invariant-loop-member
invariant-loop-member l =
    Keeps l.fn.types l.types (source_shown l.source) l.fn.self l.self (λ node. callable_among node (map member_of (take l.member-index l.members)))
