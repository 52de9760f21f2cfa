-- How far a walk over a list has come: what it notes from here on, in the rest, is what it notes in the whole.
use Rattle.std.proofs.Common.{◌≡◌, ◌<◌, ◌≤◌, ℕ, suc, ◌+◌, List, [], ◌∷◌, ◌++◌, length, get_or, drop, refl, sym, ap, subst, ◌∙◌, arith, drop-cons}
use Rattle.std.proofs.lemmas.List.{drop_all}
use Rattle.hy_base.specs.Walked.{after}

-- S is what goes on beside the list, as the names of a block; `find` gives what there is to meet in a list, `one` what there is
-- in its head, and `next` what goes on after the head
pub record IsWalk {S X F : Type 0} (find : S → List X → List F) (one : S → X → List F) (next : S → X → S) : Type 0 where
  pub none : (s : S) → find s [] ≡ []
  pub some : (s : S) (x : X) (more : List X) → find s (x ∷ more) ≡ one s x ++ find (next s x) more

module _ {F N : Type 0} (note : F → N → N) where
  pub after_append : (xs ys : List F) (n : N) → after note (xs ++ ys) n ≡ after note ys (after note xs n)
  after_append [] ys n = refl
  after_append (x ∷ xs) ys n = after_append xs ys (note x n)

  -- one part and the next
  pub then : (xs ys : List F) (a b c : N) → b ≡ after note xs a → c ≡ after note ys b → c ≡ after note (xs ++ ys) a
  then xs ys a b c h k = k ∙ ap (after note ys) h ∙ sym (after_append xs ys a)

  -- the first k are walked
  abbrev pub HasWalked : {S X : Type 0} → (S → List X → List F) → S → List X → N → ℕ → S → N → Type 0
  HasWalked find s all old k now new = after note (find now (drop k all)) new ≡ after note (find s all) old

  module _ {S X : Type 0} {find : S → List X → List F} {one : S → X → List F} {next : S → X → S} (walk : IsWalk find one next) where
    -- one more is walked
    pub walked_more : (s : S) (all : List X) (old : N) (k : ℕ) (now : S) (mid new : N) (x : X) → x ≡ get_or all k x → k < length all
        → HasWalked find s all old k now mid → new ≡ after note (one now x) mid
        → HasWalked find s all old (k + 1) (next now x) new
    walked_more s all old k now mid new x item lt so step =
        let next_k : suc k ≡ k + 1 = omega arith in
        let at : drop k all ≡ x ∷ drop (k + 1) all = drop-cons all k x lt ∙ (λ i. sym item i ∷ drop (next_k i) all) in
        ap (after note (find (next now x) (drop (k + 1) all))) step ∙ sym (after_append (one now x) (find (next now x) (drop (k + 1) all)) mid)
        ∙ ap (λ fs. after note fs mid) (sym (walk.some now x (drop (k + 1) all)) ∙ ap (find now) (sym at)) ∙ so

    pub walked_to : (s : S) (all : List X) (old : N) (k : ℕ) (now then : S) (mid new : N) (x : X) → x ≡ get_or all k x → k < length all
        → HasWalked find s all old k now mid → new ≡ after note (one now x) mid → then ≡ next now x
        → HasWalked find s all old (k + 1) then new
    walked_to s all old k now then mid new x item lt so step e =
        subst (λ (t : S). HasWalked find s all old (k + 1) t new) (sym e) (walked_more s all old k now mid new x item lt so step)

    -- all are walked
    pub walked_all : (s : S) (all : List X) (old : N) (k : ℕ) (now : S) (new : N) → length all ≤ k → HasWalked find s all old k now new
        → new ≡ after note (find s all) old
    walked_all s all old k now new end so =
        let nothing : drop k all ≡ [] = drop_all k all end in
        sym (ap (λ xs. after note (find now xs) new) nothing ∙ ap (λ fs. after note fs new) (walk.none now)) ∙ so
