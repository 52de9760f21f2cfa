-- The words that are a command.
use Rattle.std.specs.Prelude.{ℕ, Bool, true, false, not, ◌==◌, nat_le, List, [], ◌∷◌, length, Option, Some, None, if◌then◌else◌, codes, bytes_eq}
use Rattle.hy_base.specs.Lines.{digits}
use Rattle.hy_words.specs.declared.words.Options.{Options}
use Rattle.hy_words.specs.declared.words.TheConstants.{TURNS, MOST_TURNS}
use Rattle.hy_words.specs.Asked.{Asked, ToRun, ToExec}

-- a word that can name a file: it is not empty, and begins with no `-`
abbrev pub is_file : List ℕ → Bool
is_file [] = false
is_file (byte ∷ bytes) = not (byte == 45)

abbrev pub is_report : List ℕ → Bool
is_report word = bytes_eq word (codes "--report")

-- a number of turns, if there is one that is not too large
abbrev pub allowed_turns : Option ℕ → Option ℕ
allowed_turns None = None
allowed_turns (Some n) = if nat_le n MOST_TURNS then Some n else None

-- the number of turns that a word writes: it has 1 to 10 digits
abbrev pub number_of : List ℕ → Option ℕ
number_of word = if nat_le (length word) 10 then allowed_turns (digits word) else None

-- the same after the name of the option
abbrev pub turns_of : (name number : List ℕ) → Option ℕ
turns_of name number = if bytes_eq name (codes "--turns") then number_of number else None

abbrev pub with_turns : Option ℕ → Bool → Option Options
with_turns None report = None
with_turns (Some n) report = Some (record { turns = n; report = report })

-- what comes after the file: `--turns N` and `--report`, in any order, each at most once
abbrev pub options_of : List (List ℕ) → Option Options
options_of [] = with_turns (Some TURNS) false
options_of (report ∷ []) = if is_report report then with_turns (Some TURNS) true else None
options_of (name ∷ number ∷ []) = with_turns (turns_of name number) false
options_of (first ∷ second ∷ third ∷ []) =
    if is_report first then with_turns (turns_of second third) true else (if is_report third then with_turns (turns_of first second) true else None)
options_of (first ∷ second ∷ third ∷ fourth ∷ words) = None

abbrev pub run_of : List ℕ → List (List ℕ) → Option Asked
run_of file [] = Some (ToRun file)
run_of file (word ∷ words) = None

abbrev pub exec_of : List ℕ → Option Options → Option Asked
exec_of file None = None
exec_of file (Some o) = Some (ToExec file o)

-- `run FILE`, or `exec FILE` and options
abbrev pub verb_of : (verb file : List ℕ) → List (List ℕ) → Option Asked
verb_of verb file words =
    if bytes_eq verb (codes "run") then run_of file words else (if bytes_eq verb (codes "exec") then exec_of file (options_of words) else None)

-- the command that the words are, or none
abbrev pub command_of : List (List ℕ) → Option Asked
command_of [] = None
command_of (verb ∷ []) = None
command_of (verb ∷ file ∷ words) = if is_file file then verb_of verb file words else None
