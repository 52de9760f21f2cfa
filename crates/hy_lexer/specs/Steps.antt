-- Steps within a comment.
use Rattle.std.specs.Prelude.{◌≡◌, ℕ, List, [], ◌∷◌}
use Rattle.hy_lexer.specs.declared.comment.Step.{Step}
use Rattle.hy_lexer.specs.declared.comment.Step.TheVariants as step
use Rattle.hy_lexer.specs.Pieces.{BeginsNoMark}

-- what the text begins with, and what is after that
abbrev pub IsStep : List ℕ → Step → Type 0
IsStep text (step.Opens behind) = text ≡ 47 ∷ 42 ∷ behind.now
IsStep text (step.Closes behind) = text ≡ 42 ∷ 47 ∷ behind.now
IsStep text (step.Other behind) = (byte : ℕ) × (text ≡ byte ∷ behind.now) × BeginsNoMark text
IsStep text step.End = text ≡ []
