use Rattle.std.proofs.Common.{◌≡◌, drop}
use Rattle.hy_signatures.specs.Declarations as declarations
use Rattle.hy_signatures.specs.Shown.{source_shown}
use Rattle.hy_signatures.proofs.owners.lists_copyable.Given as goal

abbrev pub invariant-loop-name : goal.invariant-loop-name
invariant-loop-name l =
    declarations.lists_copyable (source_shown l.source) (drop l.name-index l.names) ≡ declarations.lists_copyable (source_shown l.source) l.names
