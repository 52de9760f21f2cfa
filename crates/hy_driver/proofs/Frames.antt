-- The words of the variables, as cells of a frame.
use Rattle.std.proofs.Common.{◌≡◌, ℕ, zero, suc, ◌+◌, ◌<◌, Bool, true, false, List, [], ◌∷◌, ◌++◌, length, take, drop, set, replicate, Some}
use Rattle.std.proofs.Common.{slice_get, refl, sym, ap, ◌∙◌, subst, arith}
use Rattle.std.specs.Prelude.{if◌then◌else◌, Contains, bytes_eq}
use Rattle.std.proofs.lemmas.List.{set_split, length-replicate}
use Rattle.std.proofs.lemmas.Slice.Eq.{bytes_eq-Decides}
use Rattle.hy_driver.specs.Scopes.{Scope}
use Rattle.hy_meaning.specs.Meaning.{Env, Value, look, put, declare, number_in}
use Rattle.hy_machine.specs.declared.frame.Cell.{Cell}
use Rattle.hy_machine.specs.declared.frame.Cell.TheVariants.{Unset, Word}
use Rattle.hy_machine.specs.Machine.{with_window}
use Rattle.hy_driver.specs.Lower.{place_of}

-- the names of the variables
abbrev pub names : Env → Scope
names [] = []
names (e ∷ env) = e.name ∷ names env

-- the words of the variables, and k words for those that are declared later
abbrev pub cells : Env → ℕ → List Cell
cells [] k = replicate k Unset
cells (e ∷ env) k = Word (number_in e.value) ∷ cells env k

pub names_put : (env : Env) (name : List ℕ) (v : Value) → names (put env name v) ≡ names env
names_put [] name v = refl
names_put (e ∷ env) name v =
    elim (bytes_eq e.name name) as (λ b. names (if b then record { name = e.name; value = v } ∷ env else e ∷ put env name v) ≡ e.name ∷ names env)
    [ true ↦ refl | false ↦ ap (λ more. e.name ∷ more) (names_put env name v) ]

pub names_declare : (env : Env) (name : List ℕ) (v : Value) → names (declare env name v) ≡ names env ++ name ∷ []
names_declare [] name v = refl
names_declare (e ∷ env) name v = ap (λ more. e.name ∷ more) (names_declare env name v)

pub length_names : (env : Env) → length (names env) ≡ length env
length_names [] = refl
length_names (e ∷ env) = ap suc (length_names env)

-- a name in a list that is not its first is in the rest
in_rest : (x : List ℕ) (scope : Scope) (name : List ℕ) → bytes_eq x name ≡ false → Contains (x ∷ scope) name → Contains scope name
in_rest x scope name differs (zero, lt, is) = absurd (let same = (bytes_eq-Decides x name).1 is in cc)
in_rest x scope name differs (suc k, lt, is) = (k, omega arith, is)

-- a name that is there has a place
pub listed : (scope : Scope) (name : List ℕ) → Contains scope name → place_of scope name < length scope
listed [] name (k, lt, is) = absurd (omega arith)
listed (x ∷ scope) name there = by (bytes_eq x name) (λ differs. listed scope name (in_rest x scope name differs there))
  where
    by : (b : Bool) → (b ≡ false → place_of scope name < length scope) → (if b then zero else suc (place_of scope name)) < suc (length scope)
    by true h = omega arith
    by false h = let lt = h refl in omega arith

pub read_variable : (env : Env) (k : ℕ) (name : List ℕ) → place_of (names env) name < length (names env)
    → slice_get (cells env k) (place_of (names env) name) ≡ Some (Word (number_in (look env name)))
read_variable [] k name lt = absurd (omega arith)
read_variable (e ∷ env) k name lt =
    elim (bytes_eq e.name name) as
    (λ b. (if b then zero else suc (place_of (names env) name)) < suc (length (names env))
    → slice_get (Word (number_in e.value) ∷ cells env k) (if b then zero else suc (place_of (names env) name)) ≡ Some
    (Word (number_in (if b then e.value else look env name))))
    [ true ↦ λ lt. refl | false ↦ λ lt. read_variable env k name (omega arith) ] lt

pub set_variable : (env : Env) (k : ℕ) (name : List ℕ) (v : Value) → place_of (names env) name < length (names env)
    → set (cells env k) (place_of (names env) name) (Word (number_in v)) ≡ cells (put env name v) k
set_variable [] k name v lt = absurd (omega arith)
set_variable (e ∷ env) k name v lt =
    elim (bytes_eq e.name name) as
    (λ b. (if b then zero else suc (place_of (names env) name)) < suc (length (names env))
    → set (Word (number_in e.value) ∷ cells env k) (if b then zero else suc (place_of (names env) name)) (Word (number_in v)) ≡ cells
    (if b then record { name = e.name; value = v } ∷ env else e ∷ put env name v) k)
    [ true ↦ λ lt. refl | false ↦ λ lt. ap (λ more. Word (number_in e.value) ∷ more) (set_variable env k name v (omega arith)) ] lt

pub set_new : (env : Env) (k : ℕ) (name : List ℕ) (v : Value) → set (cells env (suc k)) (length env) (Word (number_in v)) ≡ cells (declare env name v) k
set_new [] k name v = refl
set_new (e ∷ env) k name v = ap (λ more. Word (number_in e.value) ∷ more) (set_new env k name v)

-- the same by the scope
module _ (scope : Scope) (env : Env) (k : ℕ) (same : names env ≡ scope) where
  pub known : (name : List ℕ) → Contains scope name → slice_get (cells env k) (place_of scope name) ≡ Some (Word (number_in (look env name)))
  known name there = subst (λ scope. place_of scope name < length scope
      → slice_get (cells env k) (place_of scope name) ≡ Some (Word (number_in (look env name)))) same (read_variable env k name) (listed scope name there)

  pub assigned : (name : List ℕ) (v : Value) → Contains scope name → set (cells env k) (place_of scope name) (Word (number_in v)) ≡ cells (put env name v) k
  assigned name v there =
      subst (λ scope. place_of scope name < length scope → set (cells env k) (place_of scope name) (Word (number_in v)) ≡ cells (put env name v) k)
      same (set_variable env k name v) (listed scope name there)

  pub length_scope : length scope ≡ length env
  length_scope = ap length (sym same) ∙ length_names env

  pub added : (name : List ℕ) (v : Value) → set (cells env (suc k)) (length scope) (Word (number_in v)) ≡ cells (declare env name v) k
  added name v = ap (λ q. set (cells env (suc k)) q (Word (number_in v))) length_scope ∙ set_new env k name v

pub length_cells : (env : Env) (k : ℕ) → length (cells env k) ≡ length env + k
length_cells [] k = let e = length-replicate k Unset in omega arith
length_cells (e ∷ env) k = let e = length_cells env k in omega arith

-- one word of a list
pub window_one : (xs : List Cell) (p : ℕ) (x : Cell) → slice_get xs p ≡ Some x → take 1 (drop p xs) ≡ x ∷ []
window_one [] p x h = cc
window_one (y ∷ xs) zero x h = let e : y ≡ x = cc in ap (λ z. z ∷ []) e
window_one (y ∷ xs) (suc p) x h = window_one xs p x h

-- one word is put after two others
pub put_one : (a t : Cell) (xs : List Cell) (p : ℕ) (x : Cell) → p < length xs → with_window (a ∷ t ∷ xs) (suc (suc p)) (x ∷ []) ≡ a ∷ t ∷ set xs p x
put_one a t xs p x lt =
    let e : suc (suc p) + 1 ≡ suc (suc (suc p)) = omega arith in
    ap (λ d. a ∷ t ∷ (take p xs ++ (x ∷ drop d (a ∷ t ∷ xs)))) e ∙ ap (λ r. a ∷ t ∷ r) (sym (set_split xs p x lt))
