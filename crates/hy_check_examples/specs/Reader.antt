-- Programs from texts, for worked examples. A text has words, numbers and marks of one or two characters; a line feed begins a line.
-- « and » stand around the span that a refusal is wanted to have, and are no part of the text.
use Rattle.std.specs.Prelude.{ℕ, ◌==◌, ◌+◌, ◌-◌, ◌*◌, ◌&&◌, ◌||◌, Bool, true, false, List, [], ◌∷◌, ◌++◌, length, fold, Option, Some, None}
use Rattle.std.specs.Prelude.{cond, nat_le, pos, Result, Ok, Err, unwrap_or}
use Rattle.hy_base.specs.First.{Refusal, sooner}
use Rattle.hy_base.specs.Walked.{after}
use Rattle.hy_base.specs.declared.position.Span.{Span}
use Rattle.hy_base.specs.declared.refusal.Rule.{Rule}
use Rattle.hy_lexer.specs.Words.{kind_in, pairs, singles, word_token}
use Rattle.hy_lexer.specs.declared.token.Token.{Token}
use Rattle.hy_lexer.specs.declared.token.TokenKind.{TokenKind}
use Rattle.hy_lexer.specs.declared.token.TokenKind.TheVariants as token
use Rattle.hy_grammar.specs.Machine.{run, start}
use Rattle.hy_tree.specs.Findings.{Finding, Stands, Broken, findings, meanings}
use Rattle.hy_tree.specs.Names.{or}
use Rattle.hy_tree.specs.Numbers.{number_program}
use Rattle.hy_tree.specs.Tree as T
use Rattle.hy_tree.specs.declared.operator.Mode.{Mode}
use Rattle.hy_signatures.specs.Declarations.{source_of}
use Rattle.hy_check.specs.Phrases.{Phrase, AnExpr, AStep, phrases}
use Rattle.hy_check.specs.Places.{Place, Root, place_of}
use Rattle.hy_check.specs.Postfix.{Seen, CallStep}
use Rattle.hy_check.specs.Refusals.{refusals}
use Rattle.hy_check.specs.Typing.{type_in, valued, seen}
use Rattle.hy_check.specs.Uses.{Use, variant_of, on_place}
use Rattle.hy_types.specs.Types.{PlainType}

-- what is read of the next token
pub data Pending : Type 0 where
  Nothing : Pending
  Word : (text : List ℕ) → (from : ℕ) → Pending
  Mark : (character : ℕ) → (from : ℕ) → Pending

pub record Reading : Type 0 where
  pub pending : Pending
  pub place : ℕ
  -- whether a token that begins here is the first on its line
  pub first : Bool
  pub tokens : List Token
  pub wanted : Span

abbrev pub span : ℕ → ℕ → Span
span from to = record { from = from; to = to }

abbrev pub unread : Reading
unread = record { pending = Nothing; place = 0; first = true; tokens = []; wanted = span 0 0 }

abbrev pub is_digit : ℕ → Bool
is_digit c = nat_le 48 c && nat_le c 57

-- a letter, a digit or `_`
abbrev pub is_letter : ℕ → Bool
is_letter c = is_digit c || ((nat_le 65 c && nat_le c 90) || ((nat_le 97 c && nat_le c 122) || (c == 95)))

abbrev pub number_of : List ℕ → ℕ
number_of digits = fold (λ n c. cond (c == 95) n (10 * n + (c - 48))) 0 digits

abbrev pub begins_number : List ℕ → Bool
begins_number [] = false
begins_number (c ∷ more) = is_digit c

abbrev pub kind_of : List ℕ → TokenKind
kind_of text = cond (begins_number text) (token.Number (pos (number_of text))) (word_token text)

abbrev pub take : TokenKind → ℕ → Reading → Reading
take kind from r = record r { pending = Nothing; first = false; tokens = r.tokens ++ record { kind = kind; span = span from r.place; first = r.first } ∷ [] }

-- the token that was read, if one was
abbrev pub taken : Pending → Reading → Reading
taken Nothing r = r
taken (Word text from) r = take (kind_of text) from r
taken (Mark character from) r = take (unwrap_or (kind_in singles (character ∷ [])) token.Underscore) from r

abbrev pub flushed : Reading → Reading
flushed r = taken r.pending r

abbrev pub next : Reading → Reading
next r = record r { place = r.place + 1 }

abbrev pub longer : Pending → ℕ → Reading → Reading
longer (Word text from) c r = next (record r { pending = Word (text ++ c ∷ []) from })
longer Nothing c r = next (record r { pending = Word (c ∷ []) r.place })
longer (Mark character from) c r = next (record (flushed r) { pending = Word (c ∷ []) r.place })

abbrev pub new_mark : ℕ → Reading → Reading
new_mark c r = next (record (flushed r) { pending = Mark c r.place })

-- two marks that are one
abbrev pub paired : Option TokenKind → ℕ → ℕ → Reading → Reading
paired None from c r = new_mark c r
paired (Some kind) from c r = take kind from (next r)

abbrev pub marked : Pending → ℕ → Reading → Reading
marked (Mark character from) c r = paired (kind_in pairs (character ∷ c ∷ [])) from c r
marked other c r = new_mark c r

abbrev pub from_here : Reading → Reading
from_here r = record r { wanted = span r.place r.place }

abbrev pub to_here : Reading → Reading
to_here r = record r { wanted = span r.wanted.from r.place }

abbrev pub on_line : Reading → Reading
on_line r = next (record r { first = true })

abbrev pub read : ℕ → Reading → Reading
read c r =
    cond (is_letter c) (longer r.pending c r)
    (cond (c == 32) (next (flushed r))
    (cond (c == 10) (on_line (flushed r))
    (cond (c == 171) (from_here (flushed r))
    (cond (c == 187) (to_here (flushed r)) (marked r.pending c r)))))

abbrev pub reading : List ℕ → Reading
reading text = flushed (after read text unread)

abbrev pub tree_of : List Token → Result T.Program ℕ
tree_of tokens = run (length tokens) start tokens

-- WHAT IS FOUND IN A TEXT

pub data Outcome : Type 0 where
  -- it is no program: the machine stops before so many tokens
  NoProgram : (left : ℕ) → Outcome
  -- a rule is broken, of all of which this is the first; rules on names come before rules on types
  Refused : Rule → Span → Outcome
  -- no rule on names or types is broken
  Sound : Outcome

abbrev pub sooner_name : Finding → Option Refusal → Option Refusal
sooner_name (Stands node meaning) first = first
sooner_name (Broken rule span) first = sooner first (record { rule = rule; span = span })

abbrev pub first_name : List Finding → Option Refusal
first_name all = after sooner_name all None

abbrev pub first_of : List Refusal → Option Refusal
first_of all = after (λ f first. sooner first f) all None

abbrev pub refused : Option Refusal → Outcome
refused None = Sound
refused (Some f) = Refused f.rule f.span

abbrev pub judged : T.Program → Outcome
judged p = refused (or (first_name (findings p)) (first_of (refusals p)))

abbrev pub outcome_of : Result T.Program ℕ → Outcome
outcome_of (Err left) = NoProgram left
outcome_of (Ok tree) = judged (number_program tree)

unfoldable pub outcome : List ℕ → Outcome
outcome text = outcome_of (tree_of (reading text).tokens)

-- the span between « and »
unfoldable pub wanted : List ℕ → Span
wanted text = (reading text).wanted

-- THE CALL, OR THE EXPRESSION, AT THE MARKS

abbrev pub same_span : Span → Span → Bool
same_span a b = (a.from == b.from) && (a.to == b.to)

abbrev pub variant_seen : Seen → (marked place : Bool) → Use → Option Mode
variant_seen (CallStep s) marked place used = Some (variant_of s marked place used)
variant_seen other marked place used = None

abbrev pub variant_at : Span → Phrase → Option Mode
variant_at s (AStep around used marked before step more span) =
    cond (same_span s span) (variant_seen (seen around before step more) marked (on_place before) used) None
variant_at s phrase = None

abbrev pub type_at : Span → Phrase → Option PlainType
type_at s (AnExpr around used marked e) = cond (same_span s (T.at_expr e).span) (type_in (valued around marked e)) None
type_at s phrase = None

abbrev pub first_found : {A : Type 0} → (Phrase → Option A) → List Phrase → Option A
first_found find [] = None
first_found find (phrase ∷ more) = or (find phrase) (first_found find more)

abbrev pub found_in : {A : Type 0} → (Phrase → Option A) → Result T.Program ℕ → Option A
found_in find (Err left) = None
found_in find (Ok tree) = first_found find (phrases (source_of (meanings (number_program tree)) (number_program tree)))

-- the variant that the call at the marks picks
unfoldable pub picked : List ℕ → Option Mode
picked text = found_in (variant_at (reading text).wanted) (tree_of (reading text).tokens)

-- the type of the expression at the marks
unfoldable pub type_found : List ℕ → Option PlainType
type_found text = found_in (type_at (reading text).wanted) (tree_of (reading text).tokens)

abbrev pub place_at : Span → Phrase → Option Place
place_at s (AnExpr around used marked e) = cond (same_span s (T.at_expr e).span) (Some (place_of around e)) None
place_at s phrase = None

-- what the expression at the marks begins with, and how many steps there are from there
abbrev pub shape_of : Option Place → Option (Root × ℕ)
shape_of None = None
shape_of (Some place) = Some (place.root, length place.steps)

unfoldable pub shape_found : List ℕ → Option (Root × ℕ)
shape_found text = shape_of (found_in (place_at (reading text).wanted) (tree_of (reading text).tokens))
