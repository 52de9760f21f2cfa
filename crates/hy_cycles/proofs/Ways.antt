-- Ways along edges, and lists of numbers.
use Rattle.std.proofs.Common.{◌≡◌, ◌<◌, ◌≤◌, ◌-◌, ℕ, List, [], ◌∷◌, ◌++◌, length, get_or, take, set, inl, inr, refl, sym, ap, subst, ◌∙◌, arith}
use Rattle.std.proofs.lemmas.Bool.{cases_lt}
use Rattle.std.proofs.lemmas.List.{get_or_append_left, get_or_push, get_or-take, length_push, length-take-le, get_or-set_same, get_or-set_other}
use Rattle.std.proofs.lemmas.List.{get_or_default, get_or_past, get_or-map, length-map}
use Rattle.std.proofs.lemmas.List.Elements.{Contains-get_or}
use Rattle.std.specs.List.{Contains}
use Rattle.std.specs.Prelude.{Vec}
use Rattle.hy_cycles.specs.Graph.{Graph, graph_of, next, Reaches, edge, further}
use Rattle.hy_cycles.specs.Standing.{at, Has, Rises, place_of}
use Rattle.hy_cycles.specs.declared.walk.Place.{Place}
use Rattle.hy_cycles.specs.declared.walk.Place.TheVariants.{New}

-- WAYS

pub joined : (graph : Graph) {a b c : ℕ} → Reaches graph a b → Reaches graph b c → Reaches graph a c
joined graph (edge e) way = further e way
joined graph (further e rest) way = further e (joined graph rest way)

-- ends with the same nodes by other words
pub along : (graph : Graph) (a a' b b' : ℕ) → a ≡ a' → b ≡ b' → Reaches graph a b → Reaches graph a' b'
along graph a a' b b' first last way = subst (λ n. Reaches graph n b') first (subst (Reaches graph a) last way)

-- no way leads out of what is closed under edges
pub stays_in : (graph : Graph) (Q : ℕ → Type 0) → ((a b : ℕ) → Q a → Contains (next graph a) b → Q b) → {a b : ℕ} → Reaches graph a b → Q a → Q b
stays_in graph Q closed {a} {b} (edge e) q = closed a b q e
stays_in graph Q closed (further {from} {by} e rest) q = stays_in graph Q closed rest (closed from by q e)

pub leads_in : (graph : Graph) (Q : ℕ → Type 0) → ((a b : ℕ) → Q a → Contains (next graph a) b → Q b) → {a b : ℕ} → Reaches graph a b
    → ((c : ℕ) → Contains (next graph a) c → Q c) → Q b
leads_in graph Q closed {a} {b} (edge e) first = first b e
leads_in graph Q closed (further {from} {by} e rest) first = stays_in graph Q closed rest (first by e)

-- a fact of each edge by its index is one of each edge
pub each_edge : (P : ℕ → Type 0) (list : List ℕ) → ((k : ℕ) → k < length list → P (at list k)) → (x : ℕ) → Contains list x → P x
each_edge P list each x (k, lt, is) = subst P (get_or_default list k 0 x lt ∙ is) (each k lt)

pub edge_at : (graph : Graph) (node k : ℕ) → k < length (next graph node) → Reaches graph node (at (next graph node) k)
edge_at graph node k lt = edge (Contains-get_or (next graph node) k 0 lt)

-- LISTS OF NUMBERS

-- what is read at a place
pub read_at : (xs ys : List ℕ) (k x : ℕ) → x ≡ get_or xs k x → xs ≡ ys → k < length ys → x ≡ at ys k
read_at xs ys k x is same lt = is ∙ ap (λ list. get_or list k x) same ∙ get_or_default ys k x 0 lt

-- the edges that are kept for a node
pub kept_edges : {Z : Type 0} (edges : List (Vec ℕ Z)) (node : ℕ) (some : Vec ℕ Z) → some ≡ get_or edges node some → node < length edges
    → some.items ≡ next (graph_of edges) node
kept_edges {Z} edges node some is lt = ap (λ (v : Vec ℕ Z). v.items) is ∙ sym (get_or-map (λ (v : Vec ℕ Z). v.items) edges node some ([]) lt)

pub graph_long : {Z : Type 0} (edges : List (Vec ℕ Z)) → length (graph_of edges) ≡ length edges
graph_long {Z} edges = length-map edges (λ (v : Vec ℕ Z). v.items)

pub edge_is : (list : List ℕ) (k x : ℕ) → k < length list → x ≡ at list k → Contains list x
edge_is list k x lt is = subst (Contains list) (sym is) (Contains-get_or list k 0 lt)

pub has_push : (list : List ℕ) (y x : ℕ) → Has list x → Has (list ++ y ∷ []) x
has_push list y x has = record {
  index = has.index;
  inside = let n = length_push list y in let lt = has.inside in omega (arith, n, lt);
  is = get_or_append_left list (y ∷ []) 0 has.index has.inside ∙ has.is;
}

pub has_last : (list : List ℕ) (y : ℕ) → Has (list ++ y ∷ []) y
has_last list y = record {
  index = length list;
  inside = let n = length_push list y in omega (arith, n);
  is = get_or_push list y 0 (length list) refl;
}

pub has_at : (list : List ℕ) (k : ℕ) → k < length list → Has list (at list k)
has_at list k lt = record { index = k; inside = lt; is = refl }

-- all but the last
pub has_front : (list : List ℕ) (x : ℕ) → (x ≡ at list (length list - 1) → ⊥) → Has list x → Has (take (length list - 1) list) x
has_front list x differs has =
    let apart : has.index ≡ length list - 1 → ⊥ = λ e. differs (sym has.is ∙ ap (at list) e) in
    let lt = has.inside in
    let before : has.index < length list - 1 = elim (cases_lt has.index (length list - 1)) [
      | inl h ↦ h
      | inr h ↦ absurd (apart (omega (arith, h, lt)))
    ] in
    let long = length-take-le (length list - 1) list (omega (arith, lt)) in
    record {
      index = has.index;
      inside = omega (arith, long, before);
      is = get_or-take (length list - 1) list has.index 0 before ∙ has.is;
    }

pub rises_push : (list : List ℕ) (y : ℕ) → Rises list → ((k : ℕ) → k < length list → at list k < y) → Rises (list ++ y ∷ [])
rises_push list y rises below i j ij inside =
    let n = length_push list y in
    let lt : i < length list = omega (arith, n, ij, inside) in
    let first : at (list ++ y ∷ []) i ≡ at list i = get_or_append_left list (y ∷ []) 0 i lt in
    elim (cases_lt j (length list)) [
      | inl h ↦
          let second : at (list ++ y ∷ []) j ≡ at list j = get_or_append_left list (y ∷ []) 0 j h in
          let r = rises i j ij h in
          omega (arith, first, second, r)
      | inr h ↦
          let here : length list ≡ j = omega (arith, h, n, inside) in
          let second : at (list ++ y ∷ []) j ≡ y = get_or_push list y 0 j here in
          let r = below i lt in
          omega (arith, first, second, r)
    ]

pub rises_take : (list : List ℕ) (count : ℕ) → count ≤ length list → Rises list → Rises (take count list)
rises_take list count fits rises i j ij inside =
    let n = length-take-le count list fits in
    let jl : j < count = omega (arith, n, inside) in
    let il : i < count = omega (arith, ij, jl) in
    let first : at (take count list) i ≡ at list i = get_or-take count list i 0 il in
    let second : at (take count list) j ≡ at list j = get_or-take count list j 0 jl in
    let r = rises i j ij (omega (arith, jl, fits)) in
    omega (arith, first, second, r)

-- PLACES

pub place_here : (places : List Place) (node : ℕ) (p : Place) → node < length places → place_of (set places node p) node ≡ p
place_here places node p lt = get_or-set_same places node p New lt

pub place_else : (places : List Place) (node other : ℕ) (p : Place) → (other ≡ node → ⊥) → place_of (set places node p) other ≡ place_of places other
place_else places node other p differs = get_or-set_other places node other p New differs

-- what stands anywhere is a node
pub is_node : (places : List Place) (node : ℕ) → (place_of places node ≡ New → ⊥) → node < length places
is_node places node met =
    elim (cases_lt node (length places)) [
      | inl h ↦ h
      | inr h ↦ absurd (met (get_or_past places node New h))
    ]
