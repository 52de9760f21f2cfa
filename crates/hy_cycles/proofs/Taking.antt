-- An edge is taken.
use Rattle.std.proofs.Common.{◌≡◌, ◌<◌, ◌≤◌, ◌+◌, ◌-◌, ℕ, zero, suc, List, [], ◌∷◌, length, set, inl, inr, sym, ap, subst, ◌∙◌, arith}
use Rattle.std.proofs.lemmas.Bool.{cases_lt, cases_eq, cases_order}
use Rattle.std.proofs.lemmas.List.{length-set, get_or-set_same, get_or-set_other}
use Rattle.std.specs.List.{Contains}
use Rattle.hy_cycles.specs.Graph.{Graph, next, Reaches, edge}
use Rattle.hy_cycles.specs.Standing.{State, Stands, Has, Led, at, place_of, left_edges}
use Rattle.hy_cycles.specs.declared.walk.Place.TheVariants.{New, On}
use Rattle.hy_cycles.proofs.Ways.{joined, is_node}

-- the last place of the trail
module _ (graph : Graph) (s : State) (st : Stands graph s) (f : ℕ) (some : 0 < length s.trail) (last : f ≡ at s.trail (length s.trail - 1)) where
  pub trail_most : (x : ℕ) → Has s.trail x → x ≤ f
  trail_most x has =
      let e = has.is in
      let inside = has.inside in
      elim (cases_lt has.index (length s.trail - 1)) [
        | inl h ↦ (let r = st.trail_rises has.index (length s.trail - 1) h (omega (arith, some)) in omega (arith, r, e, last))
        | inr h ↦
            (let one : has.index ≡ length s.trail - 1 = omega (arith, h, inside) in
            let same : at s.trail has.index ≡ at s.trail (length s.trail - 1) = ap (at s.trail) one in
            omega (arith, same, e, last))
      ]

  pub starts_most : (k : ℕ) → k < length s.starts → at s.starts k ≤ f
  starts_most k lt = trail_most (at s.starts k) (st.starts_left k lt)

  pub last_inside : f < length s.path
  last_inside = let r = st.trail_inside (length s.trail - 1) (omega (arith, some)) in omega (arith, r, last)

  pub last_has : Has s.trail f
  last_has = record { index = length s.trail - 1; inside = omega (arith, some); is = sym last }

  -- from each node of the path there is a way along an edge of the last one
  pub reach_to : (to : ℕ) → Contains (next graph (at s.path f)) to → (i : ℕ) → i < length s.path → Reaches graph (at s.path i) to
  reach_to to e i lt =
      elim (cases_order i f) [
        | inl here ↦ subst (λ k. Reaches graph (at s.path k) to) (sym here) (edge e)
        | inr (inl before) ↦ joined graph (st.forward i f before last_inside) (edge e)
        | inr (inr after) ↦ joined graph (st.back f i after lt
            (λ k kl h. let r = starts_most k kl in absurd (omega (arith, r, h)))) (edge e)
      ]

  -- a way along an edge to the path leads to each place after there
  pub reach_on : (j : ℕ) → j < length s.path → Contains (next graph (at s.path f)) (at s.path j) → (i : ℕ) → i < length s.path → (x : ℕ) → j ≤ x
      → x < length s.path → Reaches graph (at s.path i) (at s.path x)
  reach_on j jl e i lt x from xl =
      elim (cases_lt j x) [
        | inl h ↦ joined graph (reach_to (at s.path j) e i lt) (st.forward j x h xl)
        | inr h ↦ (let one : j ≡ x = omega (arith, h, from) in subst (λ k. Reaches graph (at s.path i) (at s.path k)) one (reach_to (at s.path j) e i lt))
      ]

-- what stands on the path is a node
pub node_inside : (graph : Graph) (s : State) → Stands graph s → (i : ℕ) → i < length s.path → at s.path i < length graph
node_inside graph s st i lt =
    let r = is_node s.places (at s.path i) (λ e. let w : On i ≡ New = sym (st.on_path i lt) ∙ e in absurd (cc)) in
    let e = st.places_long in
    omega (arith, r, e)

-- ONE EDGE MORE

pub one_less : (graph : Graph) (taken : List ℕ) (node : ℕ) → node < length taken → at taken node < length (next graph node)
    → left_edges graph (set taken node (at taken node + 1)) + 1 ≡ left_edges graph taken
one_less graph [] node lt more = absurd (omega (arith, lt))
one_less [] (t ∷ taken) node lt more = absurd (omega (arith, more))
one_less (edges ∷ graph) (t ∷ taken) zero lt more = omega (arith, more)
one_less (edges ∷ graph) (t ∷ taken) (suc node) lt more = let r = one_less graph taken node (omega (arith, lt)) more in omega (arith, r)

module _ (graph : Graph) (s : State) (st : Stands graph s) (f : ℕ) (inside : f < length s.path) (has : Has s.trail f) (count : ℕ)
    (is : count ≡ at s.taken (at s.path f)) (led : Led s.places s.starts f (at (next graph (at s.path f)) count)) where
  abbrev node : ℕ
  node = at s.path f

  abbrev n : State
  n = record s { taken = set s.taken node (count + 1) }

  placed : place_of s.places node ≡ On f
  placed = st.on_path f inside

  known : node < length s.taken
  known = let r = is_node s.places node (λ e. let w : On f ≡ New = sym placed ∙ e in absurd (cc)) in
      let e = st.places_long in let d = st.taken_long in omega (arith, r, e, d)

  here : at n.taken node ≡ count + 1
  here = get_or-set_same s.taken node (count + 1) 0 known

  other : (x : ℕ) → (x ≡ node → ⊥) → at n.taken x ≡ at s.taken x
  other x differs = get_or-set_other s.taken node x (count + 1) 0 differs

  -- each place of the path has a node of its own
  apart : (i : ℕ) → i < length s.path → (i ≡ f → ⊥) → at s.path i ≡ node → ⊥
  apart i lt differs e =
      let w : On i ≡ On f = sym (st.on_path i lt) ∙ ap (place_of s.places) e ∙ placed in
      let one : i ≡ f = cc in differs one

  led_too : (i k : ℕ) → i < length s.path → k < at n.taken (at s.path i) → Led s.places s.starts i (at (next graph (at s.path i)) k)
  led_too i k lt kl =
      elim (cases_eq i f) [
        | inl e ↦
            (let less : k < count + 1 =
            (let size : at n.taken (at s.path i) ≡ count + 1 = ap (λ x. at n.taken (at s.path x)) e ∙ here in omega (arith, size, kl)) in
            subst (λ x. Led s.places s.starts x (at (next graph (at s.path x)) k)) (sym e)
            (elim (cases_lt k count) [
              | inl h ↦ st.led f k inside (omega (arith, h, is))
              | inr h ↦ (let one : count ≡ k = omega (arith, h, less) in subst (λ x. Led s.places s.starts f (at (next graph node) x)) one led)
            ]))
        | inr e ↦ st.led i k lt (let same = other (at s.path i) (apart i lt e) in omega (arith, same, kl))
      ]

  pub taken_stands : Stands graph n
  taken_stands = record {
    places_long = st.places_long;
    taken_long = length-set s.taken node (count + 1) ∙ st.taken_long;
    flags_long = st.flags_long;
    fresh = λ x h. other x (λ e. let w : On f ≡ New = sym placed ∙ ap (place_of s.places) (sym e) ∙ h in absurd (cc)) ∙ st.fresh x h;
    on_path = st.on_path;
    is_path = st.is_path;
    forward = st.forward;
    back = st.back;
    led = led_too;
    closed = st.closed;
    told = st.told;
    trail_rises = st.trail_rises;
    trail_inside = st.trail_inside;
    left = λ i lt. elim (cases_eq i f) [
      | inl e ↦ inl (subst (Has s.trail) (sym e) has)
      | inr e ↦ elim (st.left i lt) [
        | inl h ↦ inl h
        | inr h ↦ inr (let same = other (at s.path i) (apart i lt e) in omega (arith, same, h))
      ]
    ];
    starts_rise = st.starts_rise;
    starts_left = st.starts_left;
    first = st.first;
  }
