-- The turns that words say are not too many.
use Rattle.std.proofs.Common.{◌≡◌, ◌≤◌, ℕ, Bool, true, false, List, [], ◌∷◌, length, nat_le, Option, Some, None, refl, sym, ap, ◌∙◌, subst, arith}
use Rattle.std.specs.Prelude.{codes, bytes_eq, if◌then◌else◌}
use Rattle.std.proofs.lemmas.Bool.Decides.{nat_tests}
use Rattle.hy_base.specs.Lines.{digits}
use Rattle.hy_words.specs.declared.words.Options.{Options}
use Rattle.hy_words.specs.declared.words.TheConstants.{TURNS, MOST_TURNS}
use Rattle.hy_words.specs.Commands.{is_report, allowed_turns, number_of, turns_of, with_turns, options_of}

abbrev IsFew : Option ℕ → Type 0
IsFew None = Unit {0}
IsFew (Some n) = n ≤ MOST_TURNS

abbrev AreFew : Option Options → Type 0
AreFew None = Unit {0}
AreFew (Some o) = o.turns ≤ MOST_TURNS

tested : (n : ℕ) (b : Bool) → nat_le n MOST_TURNS ≡ b → IsFew (if b then Some n else None)
tested n true h = grind (arith, nat_tests)
tested n false h = tt

few_is : (o : Option ℕ) → IsFew (allowed_turns o)
few_is None = tt
few_is (Some n) = tested n (nat_le n MOST_TURNS) refl

number_few : (word : List ℕ) → IsFew (number_of word)
number_few word = elim (nat_le (length word) 10) as (λ b. IsFew (if b then allowed_turns (digits word) else None)) [ true ↦ few_is (digits word) | false ↦ tt ]

turns_few : (name number : List ℕ) → IsFew (turns_of name number)
turns_few name number = elim (bytes_eq name (codes "--turns")) as (λ b. IsFew (if b then number_of number else None)) [ true ↦ number_few number | false ↦ tt ]

options_few : (o : Option ℕ) (report : Bool) → IsFew o → AreFew (with_turns o report)
options_few None report h = tt
options_few (Some n) report h = h

-- the number that is taken where the words give none
usual : TURNS ≤ MOST_TURNS
usual = omega arith

when : (b : Bool) (o : Option Options) → AreFew o → AreFew (if b then o else None)
when true o h = h
when false o h = tt

of_few : (words : List (List ℕ)) → AreFew (options_of words)
of_few [] = usual
of_few (report ∷ []) = when (is_report report) (with_turns (Some TURNS) true) usual
of_few (name ∷ number ∷ []) = options_few (turns_of name number) false (turns_few name number)
of_few (first ∷ second ∷ third ∷ []) =
    let last : AreFew (if is_report third then with_turns (turns_of first second) true else None) =
    when (is_report third) (with_turns (turns_of first second) true) (options_few (turns_of first second) true (turns_few first second)) in
    elim (is_report first) as (λ b.
    AreFew (if b then with_turns (turns_of second third) true else (if is_report third then with_turns (turns_of first second) true else None)))
    [ true ↦ options_few (turns_of second third) true (turns_few second third) | false ↦ last ]
of_few (first ∷ second ∷ third ∷ fourth ∷ words) = tt

pub options_within : (words : List (List ℕ)) (o : Option Options) (read : Options) → o ≡ options_of words → o ≡ Some read → read.turns ≤ MOST_TURNS
options_within words o read same is = subst AreFew (sym same ∙ is) (of_few words)
