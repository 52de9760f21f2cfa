-- What the words of a command line ask for, as files are named by bytes.
use Rattle.std.specs.Prelude.{ℕ, List}
use Rattle.hy_words.specs.declared.words.Options.{Options}

pub data Asked : Type 0 where
  ToRun : (file : List ℕ) → Asked
  ToExec : (file : List ℕ) (options : Options) → Asked

-- the file that is asked for
abbrev pub file_of : Asked → List ℕ
file_of (ToRun file) = file
file_of (ToExec file options) = file
