use Rattle.std.proofs.Common.{◌+◌, ◌-◌, length}
use Rattle.hy_signatures.specs.CopyablesShown.{TellCopyable}
use Rattle.hy_signatures.specs.OwnersShown.{AreOwners}
use Rattle.hy_signatures.specs.Shown.{source_shown}
use Rattle.hy_signatures.proofs.copyables.Copyables.is_copyable.Given as goal

abbrev pub invariant-loop-self : goal.invariant-loop-self
invariant-loop-self l = AreOwners l.types (source_shown l.source) l.owners
    → TellCopyable l.types (source_shown l.source) l.generics l.fn.self.flags.items
    → TellCopyable l.types (source_shown l.source) l.generics l.self.flags.items

abbrev pub decreases-loop-self : goal.decreases-loop-self
decreases-loop-self l = l.id.at + 1 - length l.self.flags.items
