-- Programs of the forms that are built: the meaning of the whole language is the one of these forms.
use Rattle.std.specs.Prelude.{◌≡◌, ℕ, Bool, true, false, List, [], ◌∷◌, ◌++◌, Option, Some, None, Result, Ok, Err, codes}
use Rattle.hy_tree.specs.Numbers.{number_program}
use Rattle.hy_tree.specs.Tree as T
use Rattle.hy_check_examples.specs.Reader.{reading, tree_of}
use Rattle.hy_copying.specs.Runs.{Ends}
use Rattle.hy_copying.specs.Meaning as whole
use Rattle.hy_meaning.specs.Meaning as built

-- what is seen, as the meaning of the whole language shows it
abbrev shown : built.Report → whole.Report
shown r = record { output = r.output; halt = Ends r.end; taken = r.taken; turns = r.turns; opened = r.opened }

abbrev by_both : (n : ℕ) → T.Program → Type 0
by_both n p = whole.mean p [] false n ≡ shown (built.mean p [] false n)

abbrev agree_on : (n : ℕ) → Result T.Program ℕ → Type 0
agree_on n (Err left) = ⊥
agree_on n (Ok tree) = by_both n (number_program tree)

-- with at most n turns
unfoldable pub Agree : (n : ℕ) → (text : List ℕ) → Type 0
Agree n text = agree_on n (tree_of (reading text).tokens)

abbrev pub AllAgree : (n : ℕ) → List (List ℕ) → Type 0
AllAgree n [] = Unit {0}
AllAgree n (text ∷ more) = Agree n text × AllAgree n more

abbrev pub texts : List (List ℕ)
texts =
    codes "fun main() {}"
    ∷ codes "fun main() { var x = 40; x = x + 2; print(x) }"
    ∷ codes "fun main() { var total = 40; var before = total + 0; total = total + 2; print(total); print(before) }"
    ∷ codes "fun main() { print(9223372036854775807); print(9223372036854775807 + 1 + 1); print(3) }"
    ∷ codes "fun main() { var a = 1; var b = a + a + a; a = b + b; b = a + 1; print(a + b); print(b + 0) }"
    ∷ codes "fun main() { var a = 9223372036854775806; a = a + 1; print(a); var c = 1 + a; print(c) }"
    ∷ []
