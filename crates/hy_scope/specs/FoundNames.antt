-- What a table of names has at each node of a tree.
use Rattle.std.specs.Prelude.{◌≡◌, ◌<◌, ℕ, List, Some, length, slice_get, Contains}
use Rattle.hy_tree.specs.Findings.{Stands, findings}
use Rattle.hy_tree.specs.Numbers.{count_program}
use Rattle.hy_tree.specs.Tree.{Program}
use Rattle.hy_tree.specs.declared.meant.Meant.{Meant}
use Rattle.hy_tree.specs.declared.meant.Meant.TheVariants as meant

-- The table has a place for each node. Where a name was found it has what the name stands for, and at every other node nothing.
pub record HasFoundNames (p : Program) (table : List Meant) : Type 0 where
  pub size : length table ≡ count_program p
  pub found : (node : ℕ) (meaning : Meant) → Contains (findings p) (Stands node meaning) → slice_get table node ≡ Some meaning
  pub others : (node : ℕ) → node < count_program p → ((meaning : Meant) → Contains (findings p) (Stands node meaning) → ⊥) → slice_get table node
      ≡ Some meant.Nothing
