-- The last group of the path is done, node by node.
use Rattle.std.proofs.Common.{◌≡◌, ◌<◌, ◌≤◌, ◌⊎◌, ◌+◌, ◌-◌, ℕ, Bool, false, List, length, get_or, set, take, inl, inr, refl, sym, ap, ◌∙◌, arith}
use Rattle.std.proofs.lemmas.Bool.{cases_lt, cases_eq}
use Rattle.std.proofs.lemmas.List.{length-set, get_or-set_same, get_or-set_other}
use Rattle.hy_cycles.specs.Graph.{Graph}
use Rattle.hy_cycles.specs.Standing.{State, Stands, Closes, at, place_of}
use Rattle.hy_cycles.specs.declared.walk.Place.{Place}
use Rattle.hy_cycles.specs.declared.walk.Place.TheVariants.{New, On, Done}
use Rattle.hy_cycles.proofs.Ways.{place_here, place_else, is_node}

-- the nodes from one place of the path on are done, up to another
pub record Ending (start k : ℕ) (flag : Bool) (old : State) (places : List Place) (flags : List Bool) : Type 0 where
  pub places_long : length places ≡ length old.places
  pub flags_long : length flags ≡ length old.flags
  pub ended : (node i : ℕ) → place_of old.places node ≡ On i → start ≤ i → i < k → (place_of places node ≡ Done) × (get_or flags node false ≡ flag)
  pub others : (node : ℕ) → ((i : ℕ) → place_of old.places node ≡ On i → (i < start) ⊎ (k ≤ i))
      → (place_of places node ≡ place_of old.places node) × (get_or flags node false ≡ get_or old.flags node false)

pub ending_none : (start : ℕ) (flag : Bool) (old : State) → Ending start start flag old old.places old.flags
ending_none start flag old = record {
  places_long = refl;
  flags_long = refl;
  ended = λ node i on from before. absurd (omega (arith, from, before));
  others = λ node apart. (refl, refl);
}

module _ (graph : Graph) (old : State) (st : Stands graph old) (start k : ℕ) (flag : Bool) (places : List Place) (flags : List Bool)
    (so : Ending start k flag old places flags) (from : start ≤ k) (lt : k < length old.path) where
  abbrev one : ℕ
  one = at old.path k

  placed : place_of old.places one ≡ On k
  placed = st.on_path k lt

  pub one_known : one < length old.places
  one_known = is_node old.places one (λ e. let w : On k ≡ New = sym placed ∙ e in absurd (cc))

  here : place_of (set places one Done) one ≡ Done
  here = place_here places one Done (let e = so.places_long in let r = one_known in omega (arith, e, r))

  told : get_or (set flags one flag) one false ≡ flag
  told = get_or-set_same flags one flag false (
      let e = so.flags_long in
      let d = st.flags_long in let b = st.places_long in let r = one_known in omega (arith, e, d, b, r))

  -- another node stands at another place
  apart : (node i : ℕ) → place_of old.places node ≡ On i → (node ≡ one → ⊥) → i ≡ k → ⊥
  apart node i on differs e = differs (sym (st.is_path node i on).1 ∙ ap (at old.path) e)

  pub ending_more : Ending start (k + 1) flag old (set places one Done) (set flags one flag)
  ending_more = record {
    places_long = length-set places one Done ∙ so.places_long;
    flags_long = length-set flags one flag ∙ so.flags_long;
    ended = λ node i on after before.
        elim (cases_eq node one) [
          | inl e ↦ (ap (place_of (set places one Done)) e ∙ here, ap (λ x. get_or (set flags one flag) x false) e ∙ told)
          | inr e ↦
              (let differs = apart node i on e in
              let less : i < k = elim (cases_lt i k) [ inl h ↦ h | inr h ↦ absurd (differs (omega (arith, h, before))) ] in
              let r = so.ended node i on after less in
              (place_else places one node Done e ∙ r.0, get_or-set_other flags one node flag false e ∙ r.1))
        ];
    others = λ node out.
        elim (cases_eq node one) [
          | inl e ↦
              (let on : place_of old.places node ≡ On k = ap (place_of old.places) e ∙ placed in
              absurd (elim (out k on) [ inl h ↦ omega (arith, h, from) | inr h ↦ omega (arith, h) ]))
          | inr e ↦
              (let r = so.others node (λ i on. elim (out i on) [ inl h ↦ inl h | inr h ↦ inr (omega (arith, h)) ]) in
              (place_else places one node Done e ∙ r.0, get_or-set_other flags one node flag false e ∙ r.1))
        ];
  }

-- at the end all of them are
pub ending_all : (graph : Graph) (old new : State) (start k : ℕ) (flag : Bool) → Stands graph old → Ending start k flag old new.places new.flags
    → length old.path ≤ k → new.taken ≡ old.taken → new.path ≡ take start old.path → new.starts ≡ take (length old.starts - 1) old.starts
    → new.trail ≡ take (length old.trail - 1) old.trail → Closes start flag old new
ending_all graph old new start k flag st so end taken path starts trail = record {
  places_long = so.places_long;
  flags_long = so.flags_long;
  ended = λ node i on after.
      let r = (st.is_path node i on).0 in
      so.ended node i on after (omega (arith, r, end));
  others = λ node before. so.others node (λ i on. inl (before i on));
  taken = taken;
  path = path;
  starts = starts;
  trail = trail;
}
