-- What a row of a table says: a program, what it is given, and what is seen of its run.
use Rattle.std.specs.Prelude.{◌≡◌, ℕ, ◌==◌, Bool, true, false, List, [], ◌∷◌, ◌++◌, Option, Some, None, Result, Ok, Err, codes, cond}
use Rattle.hy_base.specs.declared.position.Span.{Span}
use Rattle.hy_base.specs.declared.run.End.TheVariants as end
use Rattle.hy_base.specs.declared.run.TrapKind.{TrapKind}
use Rattle.hy_tree.specs.Numbers.{number_program}
use Rattle.hy_tree.specs.Tree as T
use Rattle.hy_base.specs.First.{Refusal}
use Rattle.hy_conv.specs.Conventions.{refusals}
use Rattle.hy_check_examples.specs.Reader.{Reading, reading, tree_of, Outcome, Sound, judged}
use Rattle.hy_copying.specs.Runs.{Halt, Ends, Before, Event}
use Rattle.hy_copying.specs.Meaning.{Report, run}

-- A program; its input, which is a beginning only where `cut` holds; the turns, and perhaps the events, at most. Then what is seen of the
-- run; « and » in the text stand around the span of the trap.
pub record Row : Type 0 where
  pub text : List ℕ
  pub input : List ℕ
  pub cut : Bool
  pub most : ℕ
  pub events : Option ℕ
  pub output : List ℕ
  pub halt : Span → Halt
  pub taken : ℕ
  pub turns : ℕ
  pub opened : ℕ

abbrev wanted : Row → Span → Report
wanted r span = record { output = r.output; halt = r.halt span; taken = r.taken; turns = r.turns; opened = r.opened }

-- what is seen of a program that breaks no rule on names, types and conventions
abbrev if_none : List Refusal → Report → Option Report
if_none [] seen = Some seen
if_none (broken ∷ more) seen = None

abbrev if_sound : Outcome → Option Report → Option Report
if_sound Sound seen = seen
if_sound other seen = None

abbrev meant_by : Row → T.Program → Option Report
meant_by r p = if_sound (judged p) (if_none (refusals p) (run p r.input r.cut r.most r.events))

abbrev meant : Row → Result T.Program ℕ → Option Report
meant r (Err left) = None
meant r (Ok tree) = meant_by r (number_program tree)

abbrev holds : Row → Reading → Type 0
holds r read = meant r (tree_of read.tokens) ≡ Some (wanted r read.wanted)

-- a row holds
unfoldable pub Holds : Row → Type 0
Holds r = holds r (reading r.text)

-- all rows of a table hold
abbrev pub Hold : List Row → Type 0
Hold [] = Unit {0}
Hold (r ∷ more) = Holds r × Hold more

-- lines, which `/` parts, each ended by a line feed; spaces are left out
abbrev line_feeds : List ℕ → List ℕ
line_feeds [] = 10 ∷ []
line_feeds (c ∷ more) = cond (c == 32) (line_feeds more) (cond (c == 47) (10 ∷ line_feeds more) (c ∷ line_feeds more))

abbrev pub lines : List ℕ → List ℕ
lines [] = []
lines (c ∷ more) = line_feeds (c ∷ more)

-- KINDS OF ROWS

-- a run without input that is done
abbrev pub does : (output text : List ℕ) → (turns opened : ℕ) → Row
does output text turns opened = record {
  text = text;
  input = [];
  cut = false;
  most = 100;
  events = None;
  output = lines output;
  halt = λ span. Ends end.Done;
  taken = 0;
  turns = turns;
  opened = opened;
}

-- it is given an input, of which it takes so many bytes
abbrev pub given : Row → (input : List ℕ) → (taken : ℕ) → Row
given r input taken = record r { input = input; taken = taken }

-- it ends in a trap
abbrev pub trapped : Row → TrapKind → Row
trapped r kind = record r { halt = λ span. Ends (end.Trap kind span) }

-- it may take so many turns, and needs one more
abbrev pub spent : Row → (most : ℕ) → Row
spent r most = record r { most = most; turns = most; halt = λ span. Ends end.Spent }

-- its input is a beginning only, and it asks for a further byte
abbrev pub asks : Row → Row
asks r = record r { cut = true; halt = λ span. Ends end.Asks }

-- after so many events this is the next one
abbrev pub stops : Row → (events : ℕ) → Event → Row
stops r events next = record r { events = Some events; halt = λ span. Before next }

-- PARTS OF PROGRAMS

-- its deinitialiser prints its number
abbrev pub with_d : List ℕ → List ℕ
with_d text = codes "type D { var k: Int  deinit { print(k) } } " ++ text

-- its ramp prints a number, and its slide the number 100 above that
abbrev pub with_s : List ℕ → List ℕ
with_s text = codes "subscript s(_ k: Int, _ x: yielded Int): Int { inout { print(k); yield &x; print(k + 100) } } " ++ text

-- it prints 5 before it yields, and 6 after that
abbrev pub with_noisy : List ℕ → List ℕ
with_noisy text = codes "subscript noisy(_ x: yielded Int): Int { let { print(5); yield x; print(6) } } " ++ text
