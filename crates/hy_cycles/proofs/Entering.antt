-- A node is put on the path.
use Rattle.std.proofs.Common.{◌≡◌, ◌<◌, ◌≤◌, ◌⊎◌, ◌+◌, ℕ, [], ◌∷◌, length, inl, inr, refl, sym, ap, subst, ◌∙◌, arith}
use Rattle.std.proofs.lemmas.Bool.{cases_lt, cases_eq}
use Rattle.std.proofs.lemmas.List.{get_or_append_left, get_or_push, length_push, length-set}
use Rattle.hy_cycles.specs.Graph.{Graph, next, Reaches}
use Rattle.hy_cycles.specs.Standing.{State, Stands, Has, Led, NoStart, at, place_of, entered}
use Rattle.hy_cycles.specs.declared.walk.Place.TheVariants.{New, On, Done}
use Rattle.hy_cycles.proofs.Ways.{along, has_push, has_last, rises_push, place_here, place_else}

module _ (graph : Graph) (s : State) (st : Stands graph s) (node : ℕ) (known : node < length graph) (is_new : place_of s.places node ≡ New)
    (reach : (i : ℕ) → i < length s.path → Reaches graph (at s.path i) node) where
  abbrev m : ℕ
  m = length s.path

  abbrev n : State
  n = entered s node

  long : length n.path ≡ m + 1
  long = length_push s.path node

  below : (i : ℕ) → i < m + 1 → (i < m) ⊎ (i ≡ m)
  below i lt = elim (cases_lt i m) [ inl h ↦ inl h | inr h ↦ inr (omega (arith, h, lt)) ]

  before : (i : ℕ) → i < m → at n.path i ≡ at s.path i
  before i lt = get_or_append_left s.path (node ∷ []) 0 i lt

  here : at n.path m ≡ node
  here = get_or_push s.path node 0 m refl

  there : place_of n.places node ≡ On m
  there = place_here s.places node (On m) (let e = st.places_long in omega (arith, e, known))

  other : (x : ℕ) → (x ≡ node → ⊥) → place_of n.places x ≡ place_of s.places x
  other x differs = place_else s.places node x (On m) differs

  -- a node that was met is another one
  met : (x : ℕ) → (place_of s.places x ≡ New → ⊥) → x ≡ node → ⊥
  met x old e = old (ap (place_of s.places) e ∙ is_new)

  done : (x : ℕ) → place_of s.places x ≡ Done → place_of n.places x ≡ Done
  done x h = other x (met x (λ e. let w : Done ≡ New = sym h ∙ e in absurd (cc))) ∙ h

  on : (x i : ℕ) → place_of s.places x ≡ On i → place_of n.places x ≡ On i
  on x i h = other x (met x (λ e. let w : On i ≡ New = sym h ∙ e in absurd (cc))) ∙ h

  was_done : (x : ℕ) → place_of n.places x ≡ Done → place_of s.places x ≡ Done
  was_done x h =
      elim (cases_eq x node) [
        | inl e ↦ (let w : On m ≡ Done = sym there ∙ ap (place_of n.places) (sym e) ∙ h in absurd (cc))
        | inr e ↦ sym (other x e) ∙ h
      ]

  starts_long : length n.starts ≡ length s.starts + 1
  starts_long = length_push s.starts m

  start_before : (k : ℕ) → k < length s.starts → at n.starts k ≡ at s.starts k
  start_before k lt = get_or_append_left s.starts (m ∷ []) 0 k lt

  start_here : at n.starts (length s.starts) ≡ m
  start_here = get_or_push s.starts m 0 (length s.starts) refl

  start_inside : (k : ℕ) → k < length s.starts → at s.starts k < m
  start_inside k lt =
      let has = st.starts_left k lt in
      let r = st.trail_inside has.index has.inside in
      let e = has.is in
      omega (arith, r, e)

  led_still : (i to : ℕ) → i < m → Led s.places s.starts i to → Led n.places n.starts i to
  led_still i to lt (inl h) = inl (done to h)
  led_still i to lt (inr (j, h, later)) = inr (
    j,
    on to j h,
    λ k kl le.
        elim (cases_lt k (length s.starts)) [
          | inl inside ↦ (let e = start_before k inside in let r = later k inside (omega (arith, e, le)) in omega (arith, e, r))
          | inr past ↦
              (let last : k ≡ length s.starts = omega (arith, past, kl, starts_long) in
              let e : at n.starts k ≡ m = ap (at n.starts) last ∙ start_here in
              absurd (omega (arith, e, le, lt)))
        ],
  )

  at_path : (P : ℕ → ℕ → Type 0) → ((i : ℕ) → i < m → P i (at s.path i)) → P m node → (i : ℕ) → i < length n.path → P i (at n.path i)
  at_path P old new i lt =
      elim (below i (let e = long in omega (arith, e, lt))) [
        | inl h ↦ subst (P i) (sym (before i h)) (old i h)
        | inr e ↦ (let one : at n.path i ≡ node = ap (at n.path) e ∙ here in subst (λ x. P x (at n.path i)) (sym e) (subst (P m) (sym one) new))
      ]

  forward_too : (i j : ℕ) → i < j → j < length n.path → Reaches graph (at n.path i) (at n.path j)
  forward_too i j ij inside =
      let il : i < m = (let e = long in omega (arith, e, ij, inside)) in
      at_path (λ j y. i < j → Reaches graph (at n.path i) y)
      (λ j jl lt. along graph _ _ _ _ (sym (before i il)) refl (st.forward i j lt jl))
      (λ lt. along graph _ _ _ _ (sym (before i il)) refl (reach i il)) j inside ij

  back_too : (i j : ℕ) → i < j → j < length n.path → NoStart n.starts i j → Reaches graph (at n.path j) (at n.path i)
  back_too i j ij inside none =
      let il : i < m = (let e = long in omega (arith, e, ij, inside)) in
      at_path (λ j y. i < j → NoStart n.starts i j → Reaches graph y (at n.path i))
      (λ j jl lt no. along graph _ _ _ _ refl (sym (before i il)) (st.back i j lt jl
      (λ k kl h. let e = start_before k kl in
      let r = no k (omega (arith, kl, starts_long)) (omega (arith, e, h)) in omega (arith, e, r))))
      (λ lt no. absurd (let e = start_here in
      let r = no (length s.starts) (omega (arith, starts_long)) (omega (arith, e, il)) in omega (arith, e, r)))
      j inside ij none

  led_too : (i : ℕ) → i < length n.path → (k : ℕ) → k < at n.taken (at n.path i) → Led n.places n.starts i (at (next graph (at n.path i)) k)
  led_too = at_path (λ i x. (k : ℕ) → k < at s.taken x → Led n.places n.starts i (at (next graph x) k))
      (λ i lt k kl. led_still i (at (next graph (at s.path i)) k) lt (st.led i k lt kl))
      (λ k kl. let none = st.fresh node is_new in absurd (omega (arith, none, kl)))

  left_too : (i : ℕ) → i < length n.path → Has n.trail i ⊎ (length (next graph (at n.path i)) ≤ at n.taken (at n.path i))
  left_too = at_path (λ i x. Has n.trail i ⊎ (length (next graph x) ≤ at s.taken x))
      (λ i lt. elim (st.left i lt) [ inl h ↦ inl (has_push s.trail m i h) | inr h ↦ inr h ])
      (inl (has_last s.trail m))

  first_too : (0 < length n.starts) × (at n.starts 0 ≡ 0)
  first_too = (
    let e = starts_long in omega (arith, e),
    elim (cases_lt 0 (length s.starts)) [
      | inl h ↦ start_before 0 h ∙ (st.first (let r = start_inside 0 h in omega (arith, r))).1
      | inr h ↦
          (let none : length s.starts ≡ 0 = omega (arith, h) in
          let empty : m ≡ 0 = elim (cases_lt 0 m) [ inl p ↦ (let q = (st.first p).0 in absurd (omega (arith, q, none))) | inr p ↦ omega (arith, p) ] in
          ap (at n.starts) (sym none) ∙ start_here ∙ empty)
    ],
  )

  pub entered_stands : Stands graph n
  entered_stands = record {
    places_long = length-set s.places node (On m) ∙ st.places_long;
    taken_long = st.taken_long;
    flags_long = st.flags_long;
    fresh = λ x h. elim (cases_eq x node) [
      | inl e ↦ (let w : On m ≡ New = sym there ∙ ap (place_of n.places) (sym e) ∙ h in absurd (cc))
      | inr e ↦ st.fresh x (sym (other x e) ∙ h)
    ];
    on_path = at_path (λ i x. place_of n.places x ≡ On i) (λ i lt. on (at s.path i) i (st.on_path i lt)) there;
    is_path = λ x i h. elim (cases_eq x node) [
      | inl e ↦
          (let w : On m ≡ On i = sym there ∙ ap (place_of n.places) (sym e) ∙ h in
          let one : m ≡ i = cc in
          let size = long in
          (omega (arith, one, size), ap (at n.path) (sym one) ∙ here ∙ sym e))
      | inr e ↦
          (let (lt, is) = st.is_path x i (sym (other x e) ∙ h) in
          let size = long in
          (omega (arith, lt, size), before i lt ∙ is))
    ];
    forward = forward_too;
    back = back_too;
    led = λ i k lt kl. led_too i lt k kl;
    closed = λ x k h kl. done (at (next graph x) k) (st.closed x k (was_done x h) kl);
    told = λ x h. st.told x (was_done x h);
    trail_rises = rises_push s.trail m st.trail_rises st.trail_inside;
    trail_inside = λ k kl.
        let size = long in
        let count = length_push s.trail m in
        elim (cases_lt k (length s.trail)) [
          | inl h ↦ (let e = get_or_append_left s.trail (m ∷ []) 0 k h in let r = st.trail_inside k h in omega (arith, e, r, size))
          | inr h ↦
              (let e = get_or_push s.trail m 0 k (omega (arith, h, kl, count)) in omega (arith, e, size))
        ];
    left = left_too;
    starts_rise = rises_push s.starts m st.starts_rise start_inside;
    starts_left = λ k kl. elim (cases_lt k (length s.starts)) [
      | inl h ↦ subst (Has n.trail) (sym (start_before k h)) (has_push s.trail m (at s.starts k) (st.starts_left k h))
      | inr h ↦
          (let last : k ≡ length s.starts = (let e = starts_long in omega (arith, h, kl, e)) in
          subst (Has n.trail) (sym (ap (at n.starts) last ∙ start_here)) (has_last s.trail m))
    ];
    first = λ some. first_too;
  }
