-- Groups of the path are made one, where an edge leads back.
use Rattle.std.proofs.Common.{◌≡◌, ◌<◌, ◌≤◌, ◌-◌, ℕ, List, length, inl, inr, sym, ap, subst, ◌∙◌, arith}
use Rattle.std.proofs.lemmas.Bool.{cases_lt}
use Rattle.std.proofs.lemmas.List.{get_or-take, length-take-le}
use Rattle.std.specs.List.{Contains}
use Rattle.hy_cycles.specs.Graph.{Graph, next, Reaches}
use Rattle.hy_cycles.specs.Standing.{State, Stands, Has, Led, NoStart, CutTo, at}
use Rattle.hy_cycles.proofs.Ways.{joined}
use Rattle.hy_cycles.proofs.Taking.{reach_to, reach_on}

module _ (bound : ℕ) (old new : List ℕ) (cut : CutTo bound old new) where
  cut_long : length new ≡ cut.count
  cut_long = ap length cut.is ∙ length-take-le cut.count old cut.inside

  cut_at : (k : ℕ) → k < length new → at new k ≡ at old k
  cut_at k lt = ap (λ list. at list k) cut.is ∙ get_or-take cut.count old k 0 (let e = cut_long in omega (arith, e, lt))

  -- those that are left out are above the bound
  cut_past : (k : ℕ) → k < length old → at old k ≤ bound → k < length new
  cut_past k lt most =
      elim (cases_lt k cut.count) [
        | inl h ↦ (let e = cut_long in omega (arith, e, h))
        | inr h ↦ (let r = cut.past k h lt in absurd (omega (arith, r, most)))
      ]

  cut_inside : (k : ℕ) → k < length new → k < length old
  cut_inside k lt = let e = cut_long in let r = cut.inside in omega (arith, e, r, lt)

  -- those that stay are not
  cut_most : ((i j : ℕ) → i < j → j < length old → at old i < at old j) → (k : ℕ) → k < length new → at new k ≤ bound
  cut_most rises k lt =
      let e = cut_long in
      let same = cut_at k lt in
      let most = cut.most (omega (arith, e, lt)) in
      let inside = cut.inside in
      elim (cases_lt k (cut.count - 1)) [
        | inl h ↦ (let r = rises k (cut.count - 1) h (omega (arith, e, lt, inside)) in omega (arith, r, same, most))
        | inr h ↦
            (let one : k ≡ cut.count - 1 = omega (arith, h, e, lt) in
            let v : at old k ≡ at old (cut.count - 1) = ap (at old) one in
            omega (arith, v, same, most))
      ]

module _ (graph : Graph) (s : State) (st : Stands graph s) (f : ℕ) (some : 0 < length s.trail) (last : f ≡ at s.trail (length s.trail - 1))
    (j : ℕ) (jl : j < length s.path) (e : Contains (next graph (at s.path f)) (at s.path j)) (starts : List ℕ) (cut : CutTo j s.starts starts) where
  abbrev n : State
  n = record s { starts = starts }

  kept : (k : ℕ) → k < length starts → at starts k ≡ at s.starts k
  kept = cut_at j s.starts starts cut

  led_still : (i to : ℕ) → Led s.places s.starts i to → Led s.places starts i to
  led_still i to (inl h) = inl h
  led_still i to (inr (x, h, later)) = inr (
    x,
    h,
    λ k kl le.
        let same = kept k kl in
        let r = later k (cut_inside j s.starts starts cut k kl) (omega (arith, same, le)) in omega (arith, same, r),
  )

  -- to a place that is not after the one to which the edge leads, as no group begins between
  back_to : (i x : ℕ) → i < x → x < length s.path → NoStart starts i x → Reaches graph (at s.path x) (at s.path i)
  back_to i x ix xl none =
      elim (cases_lt j x) [
        | inl h ↦ elim (cases_lt i j) [
          | inl before ↦ joined graph (reach_to graph s st f some last (at s.path j) e x xl)
              (st.back i j before jl (λ k kl above.
              elim (cases_lt j (at s.starts k)) [
                | inl past ↦ past
                | inr most ↦
                    (let left = cut_past j s.starts starts cut k kl most in
                    let same = kept k left in
                    let r = none k left (omega (arith, same, above)) in
                    omega (arith, same, r, h))
              ]))
          | inr after ↦ reach_on graph s st f some last j jl e x xl i after (omega (arith, ix, xl))
        ]
        | inr h ↦ st.back i x ix xl (λ k kl above.
            elim (cases_lt j (at s.starts k)) [
              | inl past ↦ omega (arith, past, h)
              | inr most ↦
                  (let left = cut_past j s.starts starts cut k kl most in
                  let same = kept k left in
                  let r = none k left (omega (arith, same, above)) in
                  omega (arith, same, r))
            ])
      ]

  pub joined_stands : Stands graph n
  joined_stands = record {
    places_long = st.places_long;
    taken_long = st.taken_long;
    flags_long = st.flags_long;
    fresh = st.fresh;
    on_path = st.on_path;
    is_path = st.is_path;
    forward = st.forward;
    back = back_to;
    led = λ i k lt kl. led_still i (at (next graph (at s.path i)) k) (st.led i k lt kl);
    closed = st.closed;
    told = st.told;
    trail_rises = st.trail_rises;
    trail_inside = st.trail_inside;
    left = st.left;
    starts_rise = λ a b ab inside.
        let bl = cut_inside j s.starts starts cut b inside in
        let one = kept a (omega (arith, ab, inside)) in
        let two = kept b inside in
        let r = st.starts_rise a b ab bl in
        omega (arith, one, two, r);
    starts_left = λ k kl. subst (Has s.trail) (sym (kept k kl)) (st.starts_left k (cut_inside j s.starts starts cut k kl));
    first = λ long.
        let (count, zero) = st.first long in
        let left = cut_past j s.starts starts cut 0 count (omega (arith, zero)) in
        (left, kept 0 left ∙ zero);
  }

  -- the edge led to a place of the last group
  pub joined_led : Led s.places starts f (at s.path j)
  joined_led = inr (j, st.on_path j jl, λ k kl le. cut_most j s.starts starts cut st.starts_rise k kl)
