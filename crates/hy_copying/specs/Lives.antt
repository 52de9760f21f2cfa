-- Copies, deinitialisation, and what is known of bodies while so many turns are left.
use Rattle.std.specs.Prelude.{ℕ, zero, suc, ◌-◌, Bool, true, false, List, [], ◌∷◌, length, Option, Some, None}
use Rattle.hy_tree.specs.declared.operator.Mode.{Mode}
use Rattle.hy_tree.specs.declared.operator.Mode.TheVariants as mode
use Rattle.hy_core.specs.Values.{Val, Unset, Number, Truth, Tuple, Product, Array, Vals, No, And, all_whole}
use Rattle.hy_copying.specs.Kinds.{parts_in}
use Rattle.hy_copying.specs.Known.{Known, deinit_of}
use Rattle.hy_copying.specs.Runs.{State, Came, Returned, Yielded, Halted}
use Rattle.hy_copying.specs.Places.{Temporary, Entry, Standing, Owned, OnlyLent, Bound, Held, value_of, without}
use Rattle.hy_copying.specs.Does.{Stops, Does, Acts, ◌>>=◌, ◌>>◌, give, nothing, impossible, count, turn, changes}

-- What costs a turn, once that is taken: the body that is declared at a node for a convention, with the values of its parameters;
-- so many passes of a loop at most; and the parts of a product after its `deinit`.
pub record Later : Type 0 where
  pub known : Known
  pub body : (node : ℕ) → Mode → (parameters : List Val) → State → Came
  pub passes : ℕ
  pub parts : Val → Acts

-- the first of some values
abbrev pub first : List Val → Val
first [] = Unset
first (v ∷ more) = v

-- those after the first one
abbrev pub rest : List Val → List Val
rest [] = []
rest (v ∷ more) = more

-- A copy is memberwise. It goes over the parts of a value as deinitialisation does, and runs no body.
pub data Visit : Type 0 where
  Copying : Visit
  Deinitialising : Visit

-- the body of a `deinit` with `self` lent for change; the parts of what is then in `self` follow
abbrev pub after_deinit : Later → Came → Acts
after_deinit later (Returned v parameters t) env s = later.parts (first parameters) env t
after_deinit later (Yielded v t slide) env s = impossible env t
after_deinit later (Halted h t) env s = Stops h t

abbrev pub runs_deinit : Later → (deinit : ℕ) → Val → Acts
runs_deinit later node v env s = after_deinit later (later.body node mode.Inout (v ∷ []) s) env s

-- Where a part is unset, at any depth, no body of the product itself runs.
abbrev pub product_ends : Later → Option ℕ → (whole : Bool) → Val → (parts : Acts) → Acts
product_ends later None whole v parts = parts
product_ends later (Some node) false v parts = parts
product_ends later (Some node) true v parts = do
  count
  turn
  runs_deinit later node v

abbrev pub product_visited : Later → Visit → ℕ → Vals → (parts : Acts) → Acts
product_visited later Copying d vs parts = parts
product_visited later Deinitialising d vs parts = product_ends later (deinit_of later.known.source d) (all_whole vs) (Product d vs) parts

-- a value is copied, or deinitialised: parts in order, elements by index
abbrev mutual
  pub visits : Later → Visit → Val → Acts
  visits later visit Unset = nothing
  visits later visit (Number t n) = nothing
  visits later visit (Truth b) = nothing
  visits later visit (Tuple vs) = visits_parts later visit vs
  visits later visit (Product d vs) = product_visited later visit d vs (visits_parts later visit vs)
  visits later visit (Array vs) = do
    count
    turn
    visits_elements later visit vs

  pub visits_parts : Later → Visit → Vals → Acts
  visits_parts later visit No = nothing
  visits_parts later visit (And v vs) = do
    visits later visit v
    visits_parts later visit vs

  pub visits_elements : Later → Visit → Vals → Acts
  visits_elements later visit No = nothing
  visits_elements later visit (And v vs) = do
    turn
    count
    visits later visit v
    visits_elements later visit vs

-- A value is deinitialised.
abbrev pub deinitialises : Later → Val → Acts
deinitialises later v = visits later Deinitialising v

-- A value is copied.
abbrev pub copies : Later → Val → Acts
copies later v = visits later Copying v

-- the parts of a product, after its `deinit`
abbrev pub deinitialises_parts : Later → Val → Acts
deinitialises_parts later v = visits_parts later Deinitialising (parts_in v)

-- TEMPORARIES

abbrev pub dies : Later → Standing → Entry → (others : Does (List Entry)) → Does (List Entry)
dies later Owned e others = do
  deinitialises later e.value
  others
dies later OnlyLent e others = others
dies later (Bound used place from temporaries) e others = others
dies later Held e others = do
  left ← others
  give (e ∷ left)

-- so many of these entries die, the newest first, save those that are held
abbrev pub die : Later → ℕ → List Entry → Does (List Entry)
die later zero entries = give entries
die later (suc n) [] = give []
die later (suc n) (e ∷ more) = dies later e.standing e (die later n more)

-- At the end of a statement those temporaries die that it created, the newest first; so many were there before it.
abbrev pub temporaries_die : Later → (before : ℕ) → Acts
temporaries_die later before env s =
    (do
      left ← die later (length env.temporaries - before) env.temporaries
      changes (λ env. record env { temporaries = left }))
    env s

-- what is a statement of its own in the rule on temporaries
abbrev pub as_statement : {A : Type 0} → Later → Does A → Does A
as_statement later does env s =
    (do
      given ← does
      temporaries_die later (length env.temporaries)
      give given)
    env s

-- One that was held dies.
abbrev pub let_go : Later → ℕ → Acts
let_go later node env s =
    (do
      changes (λ env. without node env)
      deinitialises later (value_of (Temporary node) env))
    env s

-- Those that were held die, in this order.
abbrev pub let_all_go : Later → List ℕ → Acts
let_all_go later [] = nothing
let_all_go later (node ∷ older) = do
  let_go later node
  let_all_go later older
