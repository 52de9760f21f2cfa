-- Trees whose nodes have their numbers.
use Rattle.std.specs.Prelude.{◌≡◌, ℕ, ◌<◌, ◌^◌}
use Rattle.std.specs.List.{All, AllPairs, Contains, range_with_len}
use Rattle.hy_tree.specs.Numbers.{nodes_program, count_program}
use Rattle.hy_tree.specs.Tree.{Program}

-- In preorder, the numbers are 0, 1, 2 and so on. There are less than 2^32.
pub record IsNumbered (program : Program) : Type 0 where
  pub preorder : nodes_program program ≡ range_with_len 0 (count_program program)
  pub small : count_program program < 2 ^ 32

-- A node comes before its parts and the parts before those after them: in that order the numbers rise, so none comes twice.
-- Each is below the number of nodes, and each number below it comes.
pub record HasEachOnce (program : Program) : Type 0 where
  pub rising : AllPairs (λ one other. one < other) (nodes_program program)
  pub below : All (λ number. number < count_program program) (nodes_program program)
  pub every : (number : ℕ) → number < count_program program → Contains (nodes_program program) number
