use Rattle.std.proofs.Common.{count_by, ◌≡◌}
use Rattle.hy_types.specs.Sizes.{is_pending, AreRight}
use Rattle.hy_types.specs.Types.{Table}
use Rattle.hy_types.proofs.sizes.settle.Given as goal

abbrev pub invariant-loop : goal.invariant-loop
invariant-loop l = (table : Table) → table.products ≡ l.products.entries → table.types ≡ l.types → AreRight table l.initial.sizes → AreRight table l.sizes

abbrev pub decreases-loop : goal.decreases-loop
decreases-loop l = count_by is_pending l.sizes
