-- How many instructions stand for a statement.
use Rattle.std.specs.Prelude.{◌≡◌, ℕ, length}
use Rattle.hy_core.specs.Plain.{Stmts, Stmt}
use Rattle.hy_lower.specs.Frames.{Frame}
use Rattle.hy_lower.specs.Code.{code_all, code_of, length_all, length_of}

-- The segments have the lengths by which jumps are placed, wherever they stand and jump to.
pub record LengthsAreRight : Type 0 where
  pub one : (b : Frame) (pc after again : ℕ) (s : Stmt) → length (code_of b pc after again s) ≡ length_of b s
  pub all : (b : Frame) (pc after again : ℕ) (ss : Stmts) → length (code_all b pc after again ss) ≡ length_all b ss
