-- All edges of the last place of the trail were taken.
use Rattle.std.proofs.Common.{◌≡◌, ◌<◌, ◌≤◌, ◌⊎◌, ◌↔◌, ◌+◌, ◌-◌, ℕ, Bool, true, false, List, length, get_or, take, inl, inr, refl, sym, ap, subst, ◌∙◌, arith}
use Rattle.std.proofs.Common.{true≢false}
use Rattle.std.proofs.lemmas.Bool.{cases_lt, cases_eq}
use Rattle.std.proofs.lemmas.List.{get_or-take, length-take-le, get_or_default}
use Rattle.std.specs.List.{Contains}
use Rattle.hy_cycles.specs.Graph.{Graph, next, Reaches, edge}
use Rattle.hy_cycles.specs.Standing.{State, Stands, Has, Led, Closes, at, place_of}
use Rattle.hy_cycles.specs.declared.walk.Place.{Place}
use Rattle.hy_cycles.specs.declared.walk.Place.TheVariants.{New, On, Done}
use Rattle.hy_cycles.proofs.Ways.{joined, along, each_edge, leads_in, has_front, rises_take}
use Rattle.hy_cycles.proofs.Taking.{starts_most, last_inside}

module _ (graph : Graph) (s : State) (st : Stands graph s) (f : ℕ) (some : 0 < length s.trail) (last : f ≡ at s.trail (length s.trail - 1))
    (all : length (next graph (at s.path f)) ≤ at s.taken (at s.path f)) where
  abbrev trail : List ℕ
  trail = take (length s.trail - 1) s.trail

  fits : length s.trail - 1 ≤ length s.trail
  fits = omega arith

  trail_long : length trail ≡ length s.trail - 1
  trail_long = length-take-le (length s.trail - 1) s.trail fits

  trail_at : (k : ℕ) → k < length trail → at trail k ≡ at s.trail k
  trail_at k lt = get_or-take (length s.trail - 1) s.trail k 0 (let e = trail_long in omega (arith, e, lt))

  rises : (i j : ℕ) → i < j → j < length trail → at trail i < at trail j
  rises = rises_take s.trail (length s.trail - 1) fits st.trail_rises

  -- what is left of the trail lies before
  trail_before : (k : ℕ) → k < length trail → at trail k < f
  trail_before k lt =
      let e = trail_long in
      let r = st.trail_rises k (length s.trail - 1) (omega (arith, e, lt)) (omega (arith, some)) in
      let same = trail_at k lt in
      omega (arith, r, same, last)

  front : (x : ℕ) → (x ≡ f → ⊥) → Has s.trail x → Has trail x
  front x differs has = has_front s.trail x (λ e. differs (e ∙ sym last)) has

  left_too : (i : ℕ) → i < length s.path → Has trail i ⊎ (length (next graph (at s.path i)) ≤ at s.taken (at s.path i))
  left_too i lt =
      elim (cases_eq i f) [
        | inl e ↦ inr (subst (λ x. length (next graph (at s.path x)) ≤ at s.taken (at s.path x)) (sym e) all)
        | inr e ↦ elim (st.left i lt) [ inl h ↦ inl (front i e h) | inr h ↦ inr h ]
      ]

  -- no group begins there
  module _ (within : (k : ℕ) → k < length s.starts → at s.starts k ≡ f → ⊥) where
    pub left_stands : Stands graph (record s { trail = trail })
    left_stands = record {
      places_long = st.places_long;
      taken_long = st.taken_long;
      flags_long = st.flags_long;
      fresh = st.fresh;
      on_path = st.on_path;
      is_path = st.is_path;
      forward = st.forward;
      back = st.back;
      led = st.led;
      closed = st.closed;
      told = st.told;
      trail_rises = rises;
      trail_inside = λ k kl.
          let e = trail_long in
          let same = trail_at k kl in
          let r = st.trail_inside k (omega (arith, e, kl)) in
          omega (arith, same, r);
      left = left_too;
      starts_rise = st.starts_rise;
      starts_left = λ k kl. front (at s.starts k) (within k kl) (st.starts_left k kl);
      first = st.first;
    }

  -- where no group begins there, the last one begins before
  pub begins_before : 0 < length s.starts → (at s.starts (length s.starts - 1) ≡ f → ⊥) → (k : ℕ) → k < length s.starts → at s.starts k ≡ f → ⊥
  begins_before many differs k lt e =
      let most = starts_most graph s st f some last (length s.starts - 1) (omega (arith, many)) in
      elim (cases_lt k (length s.starts - 1)) [
        | inl h ↦ (let r = st.starts_rise k (length s.starts - 1) h (omega (arith, many)) in omega (arith, r, most, e))
        | inr h ↦ (let one : k ≡ length s.starts - 1 = omega (arith, h, lt) in differs (sym (ap (at s.starts) one) ∙ e))
      ]

  -- the last group begins there
  module _ (many : 0 < length s.starts) (begins : at s.starts (length s.starts - 1) ≡ f) (flag : Bool)
      (tells : (flag ≡ true) ↔ ((f + 1 < length s.path) ⊎ Contains (next graph (at s.path f)) (at s.path f)))
      (n : State) (closes : Closes f flag s n) where
    inside : f < length s.path
    inside = last_inside graph s st f some last

    -- all edges of the group were taken
    all_taken : (i : ℕ) → f ≤ i → i < length s.path → length (next graph (at s.path i)) ≤ at s.taken (at s.path i)
    all_taken i from lt =
        elim (left_too i lt) [
          | inl has ↦
              (let r = trail_before has.index has.inside in
              let e = has.is in absurd (omega (arith, r, e, from)))
          | inr h ↦ h
        ]

    -- they lead to what is done, or to the group
    group_led : (i k : ℕ) → f ≤ i → i < length s.path → k < length (next graph (at s.path i)) → place_of n.places (at (next graph (at s.path i)) k) ≡ Done
    group_led i k from lt kl =
        let h = all_taken i from lt in
        by (st.led i k lt (omega (arith, h, kl)))
      where
        by : Led s.places s.starts i (at (next graph (at s.path i)) k) → place_of n.places (at (next graph (at s.path i)) k) ≡ Done
        by (inl done) =
            (closes.others (at (next graph (at s.path i)) k) (λ x on. let w : Done ≡ On x = sym done ∙ on in absurd (cc))).0 ∙ done
        by (inr (j, on, later)) =
            let r = later (length s.starts - 1) (omega (arith, many)) (omega (arith, begins, from)) in
            (closes.ended (at (next graph (at s.path i)) k) j on (omega (arith, begins, r))).0

    -- there is a way from each node of the group to itself, where the flag says so
    turns : flag ≡ true → (i : ℕ) → f ≤ i → i < length s.path → Reaches graph (at s.path i) (at s.path i)
    turns h i from lt =
        elim (tells.0 h) [
          | inl more ↦ elim (cases_lt f i) [
            | inl after ↦ joined graph (to_start i after lt) (st.forward f i after lt)
            | inr first ↦
                (let one : f ≡ i = omega (arith, first, from) in
                subst (λ x. Reaches graph (at s.path x) (at s.path x)) one
                (joined graph (st.forward f (f + 1) (omega arith) more) (to_start (f + 1) (omega arith) more)))
          ]
          | inr e ↦ elim (cases_lt f i) [
            | inl after ↦ joined graph (to_start i after lt) (st.forward f i after lt)
            | inr first ↦
                (let one : f ≡ i = omega (arith, first, from) in
                subst (λ x. Reaches graph (at s.path x) (at s.path x)) one (edge e))
          ]
        ]
      where
        to_start : (x : ℕ) → f < x → x < length s.path → Reaches graph (at s.path x) (at s.path f)
        to_start x fx xl =
            st.back f x fx xl (λ k kl above. let r = starts_most graph s st f some last k kl in absurd (omega (arith, r, above)))

    -- where it does not, the group is one node, whose edges lead to what was done before
    alone : (flag ≡ true → ⊥) → (i : ℕ) → f ≤ i → i < length s.path → Reaches graph (at s.path i) (at s.path i) → ⊥
    alone h i from lt way =
        let single : f + 1 < length s.path → ⊥ = λ more. h (tells.1 (inl more)) in
        let one : f ≡ i = elim (cases_lt (f + 1) (length s.path)) [ inl more ↦ absurd (single more) | inr less ↦ omega (arith, less, from, lt) ] in
        let done : place_of s.places (at s.path i) ≡ Done =
        leads_in graph (λ x. place_of s.places x ≡ Done)
        (λ a b q e. each_edge (λ x. place_of s.places x ≡ Done) (next graph a) (λ k kl. st.closed a k q kl) b e)
        way
        (each_edge (λ x. place_of s.places x ≡ Done) (next graph (at s.path i)) (λ k kl.
        let taken = all_taken i from lt in
        before (at (next graph (at s.path i)) k) single one
        (k, kl, get_or_same (next graph (at s.path i)) k kl)
        (st.led i k lt (omega (arith, taken, kl)))))
        in
        let w : Done ≡ On i = sym done ∙ st.on_path i lt in absurd (cc)
      where
        get_or_same : (list : List ℕ) (k : ℕ) → k < length list → get_or list k (at list k) ≡ at list k
        get_or_same list k kl = sym (get_or_default list k 0 (at list k) kl)

        before : (to : ℕ) → (f + 1 < length s.path → ⊥) → f ≡ i → Contains (next graph (at s.path i)) to → Led s.places s.starts i to
            → place_of s.places to ≡ Done
        before to single one e (inl done) = done
        before to single one e (inr (j, on, later)) =
            let r = later (length s.starts - 1) (omega (arith, many)) (omega (arith, begins, from)) in
            let (jl, is) = st.is_path to j on in
            let same : j ≡ f = elim (cases_lt (f + 1) (length s.path)) [ inl more ↦ absurd (single more) | inr less ↦ omega (arith, less, jl, begins, r) ] in
            let self : to ≡ at s.path f = sym is ∙ ap (at s.path) same in
            absurd (h (tells.1 (inr (subst (λ x. Contains (next graph (at s.path x)) (at s.path f)) (sym one)
            (subst (Contains (next graph (at s.path i))) self e)))))

    path_at : (i : ℕ) → i < f → at n.path i ≡ at s.path i
    path_at i lt = ap (λ list. at list i) closes.path ∙ get_or-take f s.path i 0 lt

    path_long : length n.path ≡ f
    path_long = ap length closes.path ∙ length-take-le f s.path (let r = inside in omega (arith, r))

    starts_long : length n.starts ≡ length s.starts - 1
    starts_long = ap length closes.starts ∙ length-take-le (length s.starts - 1) s.starts (omega arith)

    starts_at : (k : ℕ) → k < length n.starts → at n.starts k ≡ at s.starts k
    starts_at k lt = ap (λ list. at list k) closes.starts ∙ get_or-take (length s.starts - 1) s.starts k 0 (let e = starts_long in omega (arith, e, lt))

    -- what stands after the group was closed stood before, or was in the group
    pub stood : (x : ℕ) (p : Place) → place_of n.places x ≡ p → (p ≡ Done → ⊥) → place_of s.places x ≡ p
    stood x p h live = from (place_of s.places x) refl
      where
        from : (q : Place) → place_of s.places x ≡ q → place_of s.places x ≡ p
        from New e = sym (closes.others x (λ i on. let w : New ≡ On i = sym e ∙ on in absurd (cc))).0 ∙ h
        from Done e = sym (closes.others x (λ i on. let w : Done ≡ On i = sym e ∙ on in absurd (cc))).0 ∙ h
        from (On i) e = elim (cases_lt i f) [
          | inl lt ↦ sym (closes.others x (λ j on. let w : On i ≡ On j = sym e ∙ on in let one : i ≡ j = cc in omega (arith, one, lt))).0 ∙ h
          | inr le ↦ absurd (live (sym h ∙ (closes.ended x i e le).0))
        ]

    -- places before the group stay
    stays : (x i : ℕ) → place_of s.places x ≡ On i → i < f → place_of n.places x ≡ On i
    stays x i on lt = (closes.others x (λ j h. let w : On i ≡ On j = sym on ∙ h in let one : i ≡ j = cc in omega (arith, one, lt))).0 ∙ on

    done_stays : (x : ℕ) → place_of s.places x ≡ Done → (place_of n.places x ≡ Done) × (get_or n.flags x false ≡ get_or s.flags x false)
    done_stays x h =
        let (place, told) = closes.others x (λ i on. let w : Done ≡ On i = sym h ∙ on in absurd (cc)) in (place ∙ h, told)

    -- what is done was done, or was in the group
    was : (x : ℕ) → place_of n.places x ≡ Done → (place_of s.places x ≡ Done) ⊎ ((i : ℕ) × (place_of s.places x ≡ On i) × (f ≤ i))
    was x h = from (place_of s.places x) refl
      where
        from : (q : Place) → place_of s.places x ≡ q → (place_of s.places x ≡ Done) ⊎ ((i : ℕ) × (place_of s.places x ≡ On i) × (f ≤ i))
        from New e =
            let w : New ≡ Done = sym e ∙ sym (closes.others x (λ i on. let v : New ≡ On i = sym e ∙ on in absurd (cc))).0 ∙ h in absurd (cc)
        from Done e = inl e
        from (On i) e = elim (cases_lt i f) [
          | inl lt ↦ (let w : On i ≡ Done = sym (stays x i e lt) ∙ h in absurd (cc))
          | inr le ↦ inr (i, e, le)
        ]

    closed_too : (x k : ℕ) → place_of n.places x ≡ Done → k < length (next graph x) → place_of n.places (at (next graph x) k) ≡ Done
    closed_too x k h kl = by (was x h)
      where
        by : (place_of s.places x ≡ Done) ⊎ ((i : ℕ) × (place_of s.places x ≡ On i) × (f ≤ i)) → place_of n.places (at (next graph x) k) ≡ Done
        by (inl done) = (done_stays (at (next graph x) k) (st.closed x k done kl)).0
        by (inr (i, on, le)) =
            let (lt, is) = st.is_path x i on in
            subst (λ y. place_of n.places (at (next graph y) k) ≡ Done) is
            (group_led i k le lt (subst (λ y. k < length (next graph y)) (sym is) kl))

    decided : (b : Bool) → flag ≡ b → ((flag ≡ true → ⊥) → ⊥) → flag ≡ true
    decided true e impossible = e
    decided false e impossible = absurd (impossible (λ t. true≢false (sym t ∙ e)))

    told_too : (x : ℕ) → place_of n.places x ≡ Done → (get_or n.flags x false ≡ true) ↔ Reaches graph x x
    told_too x h = by (was x h)
      where
        by : (place_of s.places x ≡ Done) ⊎ ((i : ℕ) × (place_of s.places x ≡ On i) × (f ≤ i)) → (get_or n.flags x false ≡ true) ↔ Reaches graph x x
        by (inl done) =
            let (old, back) = st.told x done in
            let same = (done_stays x done).1 in
            ((λ e. old (sym same ∙ e)), (λ way. same ∙ back way))
        by (inr (i, on, le)) =
            let (lt, is) = st.is_path x i on in
            let same = (closes.ended x i on le).1 in (
              (λ e. along graph _ _ _ _ is is (turns (sym same ∙ e) i le lt)),
              (λ way. same ∙ decided flag refl (λ no. alone no i le lt (along graph _ _ _ _ (sym is) (sym is) way))),
            )

    led_too : (i k : ℕ) → i < f → k < at s.taken (at s.path i) → Led n.places n.starts i (at (next graph (at s.path i)) k)
    led_too i k lt kl = by (st.led i k (let r = inside in omega (arith, r, lt)) kl)
      where
        to : ℕ
        to = at (next graph (at s.path i)) k

        by : Led s.places s.starts i (at (next graph (at s.path i)) k) → Led n.places n.starts i (at (next graph (at s.path i)) k)
        by (inl done) = inl (done_stays (at (next graph (at s.path i)) k) done).0
        by (inr (j, on, later)) =
            elim (cases_lt j f) [
              | inl before ↦ inr (
                j,
                stays (at (next graph (at s.path i)) k) j on before,
                λ x xl le.
                    let e = starts_long in
                    let same = starts_at x xl in
                    let r = later x (omega (arith, e, xl)) (omega (arith, same, le)) in
                    omega (arith, same, r),
              )
              | inr after ↦ inl (closes.ended (at (next graph (at s.path i)) k) j on after).0
            ]

    start_before : (k : ℕ) → k < length n.starts → at s.starts k < f
    start_before k lt =
        let e = starts_long in
        let r = st.starts_rise k (length s.starts - 1) (omega (arith, e, lt)) (omega (arith, many)) in
        omega (arith, r, begins)

    pub closed_stands : Stands graph n
    closed_stands = record {
      places_long = closes.places_long ∙ st.places_long;
      taken_long = ap length closes.taken ∙ st.taken_long;
      flags_long = closes.flags_long ∙ st.flags_long;
      fresh = λ x h. ap (λ list. at list x) closes.taken ∙ st.fresh x (stood x New h (λ e. let w : New ≡ Done = e in absurd (cc)));
      on_path = λ i lt.
          let il : i < f = (let e = path_long in omega (arith, e, lt)) in
          ap (place_of n.places) (path_at i il) ∙ stays (at s.path i) i (st.on_path i (let r = inside in omega (arith, r, il))) il;
      is_path = λ x i h.
          let old = stood x (On i) h (λ e. let w : On i ≡ Done = e in absurd (cc)) in
          let (lt, is) = st.is_path x i old in
          let il : i < f = elim (cases_lt i f) [
            | inl before ↦ before
            | inr after ↦ (let w : On i ≡ Done = sym h ∙ (closes.ended x i old after).0 in absurd (cc))
          ] in
          let e = path_long in
          (omega (arith, e, il), path_at i il ∙ is);
      forward = λ i j ij lt.
          let jl : j < f = (let e = path_long in omega (arith, e, lt)) in
          let r = inside in
          let il : i < f = omega (arith, ij, jl) in
          along graph _ _ _ _ (sym (path_at i il)) (sym (path_at j jl)) (st.forward i j ij (omega (arith, jl, r)));
      back = λ i j ij lt none.
          let jl : j < f = (let e = path_long in omega (arith, e, lt)) in
          let r = inside in
          let il : i < f = omega (arith, ij, jl) in
          along graph _ _ _ _ (sym (path_at j jl)) (sym (path_at i il)) (st.back i j ij (omega (arith, jl, r)) (λ k kl above.
          elim (cases_lt k (length n.starts)) [
            | inl h ↦ (let same = starts_at k h in let b = none k h (omega (arith, same, above)) in omega (arith, same, b))
            | inr h ↦
                (let e = starts_long in
                let one : k ≡ length s.starts - 1 = omega (arith, e, h, kl) in
                let v : at s.starts k ≡ f = ap (at s.starts) one ∙ begins in
                omega (arith, v, jl))
          ]));
      led = λ i k lt kl.
          let il : i < f = (let e = path_long in omega (arith, e, lt)) in
          let same : at n.taken (at n.path i) ≡ at s.taken (at s.path i) = (λ q. at (closes.taken q) (path_at i il q)) in
          subst (λ x. Led n.places n.starts i (at (next graph x) k)) (sym (path_at i il)) (led_too i k il (omega (arith, same, kl)));
      closed = closed_too;
      told = told_too;
      trail_rises = subst (λ list. (i j : ℕ) → i < j → j < length list → at list i < at list j) (sym closes.trail) rises;
      trail_inside = subst (λ list. (k : ℕ) → k < length list → at list k < length n.path) (sym closes.trail)
          (λ k kl. let e = path_long in let r = trail_before k kl in omega (arith, e, r));
      left = λ i lt.
          let il : i < f = (let e = path_long in omega (arith, e, lt)) in
          let r = inside in
          let same : at n.taken (at n.path i) ≡ at s.taken (at s.path i) = (λ q. at (closes.taken q) (path_at i il q)) in
          let edges : length (next graph (at n.path i)) ≡ length (next graph (at s.path i)) = ap (λ x. length (next graph x)) (path_at i il) in
          elim (left_too i (omega (arith, il, r))) [
            | inl has ↦ inl (subst (λ list. Has list i) (sym closes.trail) has)
            | inr h ↦ inr (omega (arith, h, same, edges))
          ];
      starts_rise = λ a b ab lt.
          let e = starts_long in
          let one = starts_at a (omega (arith, ab, lt)) in
          let two = starts_at b lt in
          let r = st.starts_rise a b ab (omega (arith, e, lt)) in
          omega (arith, one, two, r);
      starts_left = λ k kl.
          let e = starts_long in
          let r = start_before k kl in
          subst (λ list. Has list (at n.starts k)) (sym closes.trail)
          (subst (Has trail) (sym (starts_at k kl))
          (front (at s.starts k) (λ same. omega (arith, same, r)) (st.starts_left k (omega (arith, e, kl)))));
      first = λ long.
          let size = path_long in
          let (count, zero) = st.first (let r = inside in omega (arith, r)) in
          let e = starts_long in
          let some_left : 0 < length n.starts = elim (cases_lt 1 (length s.starts)) [
            | inl h ↦ omega (arith, h, e)
            | inr h ↦
                (let one : length s.starts - 1 ≡ 0 = omega (arith, h) in
                let v : at s.starts 0 ≡ f = ap (at s.starts) (sym one) ∙ begins in
                absurd (omega (arith, v, zero, long, size)))
          ] in
          (some_left, starts_at 0 some_left ∙ zero);
    }
