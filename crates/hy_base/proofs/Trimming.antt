-- Lines without spaces at their end.
use Rattle.std.proofs.Common.{ℕ, List, reverse}
use Rattle.hy_base.specs.Lines.{drop_spaces}

abbrev pub without_last_spaces : List ℕ → List ℕ
without_last_spaces line = reverse (drop_spaces (reverse line))
