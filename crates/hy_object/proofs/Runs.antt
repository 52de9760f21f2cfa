-- Runs along a format.
use Rattle.std.proofs.Common.{◌≡◌, ℕ, zero, suc, ◌+◌, ◌-◌, ◌<◌, List, [], ◌∷◌, ◌++◌, length, Option, Some, None, Result, Ok, Err, refl, ap, sym, ◌∙◌, arith}
use Rattle.std.specs.Option.{ok_or}
use Rattle.hy_object.specs.declared.object.Object.{Object}
use Rattle.hy_object.specs.declared.reading.Stop.{Stop}
use Rattle.hy_object.specs.declared.reading.Stop.TheVariants as stop
use Rattle.hy_object.specs.Reading.{Finds}
use Rattle.hy_object.specs.Formats.{Kind, Held, Format, Done, Then, read_field, run, follow, many, SoFar, Stops, Reads}

pub run_some : (kind : Kind) (next : Held kind → Format) (held : Held kind) (bytes rest : List ℕ) → read_field kind bytes ≡ Some (held, rest)
    → run (Then kind next) bytes ≡ run (next held) rest
unfolding run
run_some kind next held bytes rest e = ap (λ (o : Option (Held kind × List ℕ)). follow o (λ held rest. run (next held) rest) (length bytes)) e

pub run_none : (kind : Kind) (next : Held kind → Format) (bytes : List ℕ) → read_field kind bytes ≡ None → run (Then kind next) bytes ≡ Err (length bytes)
unfolding run
run_none kind next bytes e = ap (λ (o : Option (Held kind × List ℕ)). follow o (λ held rest. run (next held) rest) (length bytes)) e

many_next : {X : Type 0} (one : ℕ → List X → (X → Format) → Format) (size : ℕ) (before : List X) (next : List X → Format) → 0 < size
    → many one size before next ≡ one (size - 1) before (λ x. many one (size - 1) (before ++ x ∷ []) next)
many_next one zero before next h = absurd (omega arith)
many_next one (suc n) before next h = let less : suc n - 1 ≡ n = omega arith in rw less refl

-- one more part was read
pub goes_on : {X : Type 0} (one : ℕ → List X → (X → Format) → Format) (size counter : ℕ) (before after : List X) (x : X) (all left behind : List ℕ)
    → counter < size → SoFar one size counter before all left
    → ((next : X → Format) → run (one (size - counter - 1) before next) left ≡ run (next x) behind) → after ≡ before ++ x ∷ []
    → SoFar one size (counter + 1) after all behind
goes_on one size counter before after x all left behind lt so_far read pushed next =
    let less : size - (counter + 1) ≡ size - counter - 1 = omega arith in
    rw (less, pushed) (so_far next ∙ ap (λ (f : Format). run f left) (many_next one (size - counter) before next (omega arith))
    ∙ read (λ y. many one (size - counter - 1) (before ++ y ∷ []) next))

-- no further part can stand there
pub stops : {X : Type 0} (one : ℕ → List X → (X → Format) → Format) (size counter bad : ℕ) (before : List X) (all left : List ℕ) → counter < size
    → SoFar one size counter before all left
    → ((next : X → Format) → run (one (size - counter - 1) before next) left ≡ Err bad) → (next : List X → Format) → run (many one size [] next) all ≡ Err bad
stops one size counter bad before all left lt so_far read next =
    so_far next ∙ ap (λ (f : Format). run f left) (many_next one (size - counter) before next (omega arith))
    ∙ read (λ y. many one (size - counter - 1) (before ++ y ∷ []) next)

-- what was found, or else the place where it was not, is what reading the field says
pub field_reads : {X : Type 0} (kind : Kind) (view : X → Held kind) (rest : X → List ℕ) (bytes : List ℕ) (found : Option X) (result : Result X Stop)
    → Finds (λ x. (view x, rest x)) found (read_field kind bytes)
    → result ≡ ok_or found (stop.At (length bytes)) → Reads view rest (λ next. Then kind next) bytes result
field_reads kind view rest bytes None result finds is = rw is (λ next. run_none kind next bytes finds)
field_reads kind view rest bytes (Some x) result finds is = rw is (λ next. run_some kind next (view x) bytes (rest x) finds)

-- what stopped the reading of a part stops that of many
pub passes : {X : Type 0} (one : ℕ → List X → (X → Format) → Format) (part : (X → Format) → Format) (size counter : ℕ) (before : List X) (all left : List ℕ)
    (e : Stop)
    → counter < size → SoFar one size counter before all left → part ≡ one (size - counter - 1) before → Stops part left e → Stops (many one size []) all e
passes {X = X} one part size counter before all left (stop.At bad) lt so_far same read =
    λ next. stops one size counter bad before all left lt so_far (λ one_next. ap (λ (p : (X → Format) → Format). run (p one_next) left) (sym same)
    ∙ read one_next) next
passes one part size counter before all left stop.NoMemory lt so_far same read = tt

-- THE END

pub is_done : (object : Object) (bytes : List ℕ) → length bytes ≡ 0 → run (Done object) bytes ≡ Ok object
unfolding run
is_done object [] h = refl
is_done object (b ∷ bytes) h = absurd (omega arith)

pub goes_past : (object : Object) (bytes : List ℕ) → (length bytes ≡ 0 → ⊥) → run (Done object) bytes ≡ Err (length bytes)
unfolding run
goes_past object [] h = absurd (h refl)
goes_past object (b ∷ bytes) h = refl
