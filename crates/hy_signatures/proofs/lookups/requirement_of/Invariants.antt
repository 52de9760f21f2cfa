use Rattle.std.proofs.Common.{◌≡◌, drop}
use Rattle.hy_types.specs.Types.{Table}
use Rattle.hy_signatures.specs.Declarations.{requirement_named}
use Rattle.hy_signatures.specs.Shown.{source_shown}
use Rattle.hy_signatures.specs.TraitsShown.{AreTraits}
use Rattle.hy_signatures.proofs.lookups.requirement_of.Given as goal

abbrev pub invariant-loop-bound : goal.invariant-loop-bound
invariant-loop-bound l = (table : Table) → AreTraits table (source_shown l.source) l.traits
    → requirement_named (source_shown l.source) l.name (drop l.bound-index l.bounds) ≡ requirement_named (source_shown l.source) l.name l.bounds
