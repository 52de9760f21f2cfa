use Rattle.std.proofs.Common.{◌≡◌, ◌*◌, ◌+◌, drop}
use Rattle.hy_types.specs.Types.{plain_types, type_of}
use Rattle.hy_types.proofs.Solving.{highest}
use Rattle.hy_signatures.specs.PlainTypes as plain
use Rattle.hy_signatures.proofs.types.Types.+mentioning.Given as goal

abbrev pub decreases-mentions : goal.decreases-mentions
decreases-mentions l = 2 * l.id.at + 1

abbrev pub decreases-mentioned_in : goal.decreases-mentioned_in
decreases-mentioned_in l = 2 * highest l.ids.now

abbrev pub invariant-mentioned_in-loop-id : goal.invariant-mentioned_in-loop-id
invariant-mentioned_in-loop-id l =
    plain.mentioned_in l.place (plain_types (type_of l.self) (drop l.id-index l.ids)) ≡ plain.mentioned_in l.place (plain_types (type_of l.self) l.ids)
