-- A command that names its file by the place among the words.
use Rattle.std.specs.Prelude.{◌≡◌, ◌<◌, ◌≤◌, ℕ, List, [], length, Option, Some, slice_get, unwrap_or, String}
use Rattle.std.specs.declared.alloc.Global.{Global}
use Rattle.hy_words.specs.declared.words.Command.{Command}
use Rattle.hy_words.specs.declared.words.Command.TheVariants.{Run, Exec}
use Rattle.hy_words.specs.declared.words.TheConstants.{MOST_TURNS}
use Rattle.hy_words.specs.Asked.{Asked, ToRun, ToExec}
use Rattle.hy_words.specs.Commands.{command_of}

abbrev pub word_at : List (List ℕ) → ℕ → List ℕ
word_at words place = unwrap_or (slice_get words place) []

-- what a command asks for, over its words
abbrev pub asked_by : List (List ℕ) → Command → Asked
asked_by words (Run file) = ToRun (word_at words file)
asked_by words (Exec file turns report) = ToExec (word_at words file) (record { turns = turns; report = report })

-- the words are this command
abbrev pub Reads : List (List ℕ) → Command → Type 0
Reads words command = command_of words ≡ Some (asked_by words command)

-- the place is one of a word, and the turns are not too many
abbrev pub IsWithin : List (String Global) → Command → Type 0
IsWithin words (Run file) = file < length words
IsWithin words (Exec file turns report) = (file < length words) × (turns ≤ MOST_TURNS)
