-- Laws of the copying meaning.
use Rattle.std.specs.Prelude.{◌≡◌, ℕ, suc, ◌+◌, ◌-◌, Bool, false, List, [], ◌∷◌, length, Option, None, ◌++◌, ◌≤◌, Some}
use Rattle.hy_base.specs.declared.run.End.{End}
use Rattle.hy_base.specs.declared.run.End.TheVariants as end
use Rattle.hy_tree.specs.Tree as T
use Rattle.hy_check.specs.Uses as U
use Rattle.hy_core.specs.Values.{Val, Unset, Number, Truth, Tuple, Product, Array, Vals, No, And}
use Rattle.hy_copying.specs.Runs.{State, Ends}
use Rattle.hy_copying.specs.Places.{Root, Local, Rooted, NoArgument, Lent, Entry, Env, value_of}
use Rattle.hy_copying.specs.Does.{Gives}
use Rattle.hy_copying.specs.Lives.{Later, copies}
use Rattle.hy_copying.specs.Opening.{reads, moves, with_open}
use Rattle.hy_copying.specs.Meaning.{Report, run, mean}

-- A run with no turns is spent, and has done nothing.
abbrev pub NothingIsDoneWithoutATurn : Type 0
NothingIsDoneWithoutATurn =
    (tree : T.Program) (input : List ℕ) (cut : Bool)
    → mean tree input cut 0 ≡ record { output = []; halt = Ends end.Spent; taken = length input - length input; turns = 0; opened = 0 }

-- A run that is spent has taken all turns that it may take.
abbrev pub SpentRunsTookAllTurns : Type 0
SpentRunsTookAllTurns =
    (tree : T.Program) (input : List ℕ) (cut : Bool) (n : ℕ) (events : Option ℕ)
    → (run tree input cut n events).halt ≡ Ends end.Spent → (run tree input cut n events).turns ≡ n

-- what is seen of a run at some point, as against the whole of it
pub record IsBeginning (r whole : Report) : Type 0 where
  pub more : List ℕ
  pub output : whole.output ≡ r.output ++ more
  pub turns : r.turns ≤ whole.turns
  pub opened : r.opened ≤ whole.opened

-- What is seen in a state of a run is a beginning of what is seen in the end.
abbrev pub StatesAreBeginnings : Type 0
StatesAreBeginnings =
    (tree : T.Program) (input : List ℕ) (cut : Bool) (n events : ℕ) → IsBeginning (run tree input cut n (Some events)) (mean tree input cut n)

-- A limit on events that a run does not meet changes nothing.
abbrev pub RunsThatEndAreWhole : Type 0
RunsThatEndAreWhole =
    (tree : T.Program) (input : List ℕ) (cut : Bool) (n events : ℕ) (x : End)
    → (run tree input cut n (Some events)).halt ≡ Ends x → run tree input cut n (Some events) ≡ mean tree input cut n

-- COPIES

-- how many arrays and elements of arrays a value has, at any depth
abbrev mutual
  pub cost : Val → ℕ
  cost Unset = 0
  cost (Number t n) = 0
  cost (Truth b) = 0
  cost (Tuple vs) = cost_of_parts vs
  cost (Product d vs) = cost_of_parts vs
  cost (Array vs) = suc (cost_of_elements vs)

  pub cost_of_parts : Vals → ℕ
  cost_of_parts No = 0
  cost_of_parts (And v vs) = cost v + cost_of_parts vs

  pub cost_of_elements : Vals → ℕ
  cost_of_elements No = 0
  cost_of_elements (And v vs) = suc (cost v + cost_of_elements vs)

-- a state with so many turns left and so many places opened, and without a limit on events
abbrev pub counting : State → (turns opened : ℕ) → State
counting s turns opened = record s { turns = turns; opened = opened; events = None }

-- A copy takes a turn and opens a place for each array and each element, and does nothing else.
abbrev pub CopiesCostTurns : Type 0
CopiesCostTurns =
    (later : Later) (v : Val) (env : Env) (s : State) (left opened : ℕ)
    → copies later v env (counting s (cost v + left) opened) ≡ Gives tt env (counting s left (cost v + opened))

-- PLACES

-- A variable is read without any event, and nothing changes.
abbrev pub ReadsChangeNothing : Type 0
ReadsChangeNothing = (later : Later) (root : Root) (env : Env) (s : State) → reads later (Rooted root) env s ≡ Gives (value_of root env) env s

-- the newest variable
abbrev pub with_newest : Env → Entry → Env
with_newest env e = record env { locals = e ∷ env.locals }

-- A variable that is moved is unset then.
abbrev pub MovesUnset : Type 0
MovesUnset =
    (later : Later) (node : ℕ) (e : Entry) (env : Env) (s : State) → e.root ≡ Local node
    → moves later (Rooted (Local node)) (with_newest env e) s ≡ Gives e.value (with_newest env (record e { value = Unset })) s

-- A variable that is lent for change has what its parameter has at the end.
abbrev pub LentForChange : Type 0
LentForChange =
    (later : Later) (node : ℕ) (e : Entry) (given new : Val) (env : Env) (s : State) → e.root ≡ Local node
    → with_open later false (Lent U.Inout (Rooted (Local node)) NoArgument) (λ values env s. Gives (record { given = given; left = new ∷ [] }) env s)
    (with_newest env e) s
    ≡ Gives given (with_newest env (record e { value = new })) s
