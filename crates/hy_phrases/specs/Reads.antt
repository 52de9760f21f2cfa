-- What a function that reads a part ensures: for whatever is expected after the part, the machine goes over the tokens
-- that were read to the state that has the part, or it stops where the function does.
use Rattle.std.specs.Prelude.{◌≡◌, ◌≤◌, ◌+◌, ℕ, Result, Ok, Err, List, length}
use Rattle.hy_lexer.specs.declared.token.Token.{Token}
use Rattle.hy_tree.specs.Tree as T
use Rattle.hy_phrases.specs.declared.stop.Stop.{Stop}
use Rattle.hy_phrases.specs.declared.stop.Stop.TheVariants as stop
use Rattle.hy_grammar.specs.Machine.{Halt, Unexpected, TooDeep, most_levels, walk}
use Rattle.hy_grammar.specs.Stack.{State, depth}

-- where a function stops, the machine does, unless memory ran out
abbrev pub Halts : Stop → Result T.Program Halt → Type 0
Halts stop.NoMemory end = Unit {0}
Halts (stop.Unexpected left) end = end ≡ Err (Unexpected left)
Halts (stop.TooDeep left) end = end ≡ Err (TooDeep left)

-- A part was read, or not. `need x` is the state in which it is to come and `have part x` the one after it, for everything
-- x that may stand below; so many levels are left there. `plain` gives the part as plain data.
abbrev pub Reads : {A B X : Type 0} → (levels : ℕ) → (plain : A → B) → (need : X → State) → (have : B → X → State) → List Token → Result A Stop → List Token
    → Type 0
Reads {X = X} levels plain need have old (Ok part) new = (total : ℕ) (x : X) → levels + depth (need x) ≡ most_levels
    → walk total (need x) old ≡ walk total (have (plain part) x) new
Reads {X = X} levels plain need have old (Err e) new = (total : ℕ) (x : X) → levels + depth (need x) ≡ most_levels → Halts e (walk total (need x) old)

-- The same for a part that counts its tokens. The tokens that are left are not more than the file has.
abbrev pub ReadsCounted : {A B X : Type 0} → (levels : ℕ) → (plain : A → B) → (need : X → State) → (have : B → X → State) → List Token → Result A Stop
    → List Token → Type 0
ReadsCounted {X = X} levels plain need have old (Ok part) new = (total : ℕ) (x : X) → length old ≤ total → levels + depth (need x) ≡ most_levels
    → walk total (need x) old ≡ walk total (have (plain part) x) new
ReadsCounted {X = X} levels plain need have old (Err e) new = (total : ℕ) (x : X) → length old ≤ total → levels + depth (need x) ≡ most_levels
    → Halts e (walk total (need x) old)
