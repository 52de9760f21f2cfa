-- A store of bytes with room for a fixed count.
use Rattle.std.specs.Prelude.{ℕ, List}

pub record Filled : Type 0 where
  pub bytes : List ℕ
  pub room : ℕ
