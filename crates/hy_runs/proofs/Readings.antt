-- What a reader reads, by how its line was filled.
use Rattle.std.proofs.Common.{◌≡◌, not, Bool, true, false, ℕ, List, [], ◌∷◌, Option, Some, None, Ok, ℤ, refl, sym, ap, ◌∙◌}
use Rattle.hy_base.specs.Lines.{got, got_last, got_line, read_line, number_of, trimmed}
use Rattle.hy_base.specs.Streams.{Tape}
use Rattle.hy_runs.specs.declared.line.LineEnd.TheVariants as line_end
use Rattle.hy_runs.specs.Lines.{Reader, Reads, IsRead}
use Rattle.hy_runs.specs.Taking.{Fills}

abbrev pub reader : Bool → Reader
reader ended = record { ended = ended }

-- the number of a line, or none
reads : (ended : Bool) (taken : List ℕ) (found : Option ℤ) → read_line (not ended) taken ≡ got found [] → Reads ended taken (Ok found)
reads ended taken None e = e
reads ended taken (Some n) e = e

reads_last : (bytes : List ℕ) → got_last false bytes ≡ got (number_of (trimmed bytes)) []
reads_last [] = refl
reads_last (b ∷ bytes) = refl

pub at_input : (old new : Option Tape) (bytes : List ℕ) (found : Option ℤ) → Fills old new bytes (Ok line_end.Input) → found ≡ number_of (trimmed bytes)
    → IsRead old new (reader false) (reader true) (Ok found)
at_input old new bytes found filled is = record {
  taken = bytes;
  told = filled.0.told;
  number = reads true bytes found (ap (got_line false) filled.0.is_split ∙ reads_last bytes ∙ ap (λ o. got o []) (sym is));
  past_end = λ e. absurd (cc);
  at_end = λ e f. filled.1;
}
