-- What is true of the fields of every table.
use Rattle.std.specs.Prelude.{◌≡◌, ◌≤◌, ◌^◌, ℕ, List, length, reverse, Some}
use Rattle.hy_types.specs.declared.kinds.TyId.{TyId}
use Rattle.hy_types.specs.declared.sizes.Size.{Size}
use Rattle.hy_types.specs.Types.{Table, HasIds, declared}
use Rattle.hy_types.specs.Rows.{AreRows}
use Rattle.hy_types.specs.Sizes.{AreRight, AreSettled}

pub record IsKept (table : Table) (sizes : List Size) : Type 0 where
  pub rows : AreRows (reverse table.types)
  pub few : length table.types ≤ 2 ^ 32
  pub long : length sizes ≡ length table.types
  pub right : AreRight table sizes
  pub settled : AreSettled table sizes
  pub parts : (product : ℕ) (ids : List TyId) → declared table product ≡ Some ids → HasIds table ids
