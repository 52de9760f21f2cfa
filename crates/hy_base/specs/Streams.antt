-- What a call does to the bytes of a source or a sink.
use Rattle.std.specs.Prelude.{◌≡◌, ℕ, List, [], ◌∷◌, ◌++◌, take, Option, Some, None, Result, Ok, Err}
use Rattle.hy_base.specs.declared.streams.Failed.{Failed}

-- the bytes of a source: those that are left, and those that were taken
pub record Tape : Type 0 where
  pub left : List ℕ
  pub taken : List ℕ

-- a call of `next`: the first byte left is taken, or none is left, or nothing happened
abbrev pub Takes : Result (Option ℕ) Failed → Tape → Tape → Type 0
Takes (Ok (Some byte)) old new = (old.left ≡ byte ∷ new.left) × (new.taken ≡ old.taken ++ byte ∷ [])
Takes (Ok None) old new = (old.left ≡ []) × (new ≡ old)
Takes (Err failed) old new = new ≡ old

-- a call of `put`: the piece is appended, or after a failure some of its front
abbrev pub Puts : List ℕ → Result (Unit {0}) Failed → List ℕ → List ℕ → Type 0
Puts piece (Ok done) old new = new ≡ old ++ piece
Puts piece (Err failed) old new = (n : ℕ) × (new ≡ old ++ take n piece)
