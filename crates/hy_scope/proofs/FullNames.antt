-- Full names, piece by piece.
use Rattle.std.proofs.Common.{◌≡◌, ◌≢◌, ℕ, List, [], ◌∷◌, ◌++◌, Option, Some, None, drop, codes, refl, sym, ap, ◌∙◌, nat_eq, true, false, true≢false, arith}
use Rattle.std.specs.List.{AllByRecursion}
use Rattle.hy_tree.specs.Names.{full_name, label_text, labels_text}
use Rattle.hy_scope.specs.FullNames.{IsNameText, IsLabel, AreLabels}

-- The first k labels are written, where `rest` is the text of those to come.
abbrev pub HasNamed : {X : Type 0} → (List X → List ℕ) → List ℕ → List X → ℕ → List ℕ → Type 0
HasNamed rest base all k text = text ++ rest (drop k all) ≡ base ++ (codes "(" ++ rest all)

-- TWO FULL NAMES

-- what stands before and after the first c
split_at : (c : ℕ) (a b x y : List ℕ) → AllByRecursion (λ k. k ≢ c) a → AllByRecursion (λ k. k ≢ c) b → a ++ (c ∷ x) ≡ b ++ (c ∷ y) → (a ≡ b) × (x ≡ y)
split_at c [] [] x y h k e = (refl, cc)
split_at c [] (n ∷ b) x y h k e = let same : n ≡ c = cc in absurd (k.0 same)
split_at c (m ∷ a) [] x y h k e = let same : m ≡ c = cc in absurd (h.0 same)
split_at c (m ∷ a) (n ∷ b) x y h k e =
    let same : m ≡ n = cc in
    let rest : a ++ (c ∷ x) ≡ b ++ (c ∷ y) = cc in
    let r = split_at c a b x y h.1 k.1 rest in
    ((λ i. same i ∷ r.0 i), r.1)

no_open : (text : List ℕ) → IsNameText text → AllByRecursion (λ k. k ≢ 40) text
no_open [] h = tt
no_open (c ∷ text) h = (h.0.0, no_open text h.1)

no_colon : (text : List ℕ) → IsNameText text → AllByRecursion (λ k. k ≢ 58) text
no_colon [] h = tt
no_colon (c ∷ text) h = (h.0.2, no_colon text h.1)

eq_itself : (n : ℕ) → nat_eq n n ≡ true
eq_itself n = grind arith

-- two numerals differ
differ : (m n : ℕ) → nat_eq m n ≡ false → m ≡ n → ⊥
differ m n h e = true≢false (sym (ap (λ k. nat_eq k n) e ∙ eq_itself n) ∙ h)

head : List ℕ → ℕ
head [] = 0
head (c ∷ text) = c

no_colon_label : (label : Option (List ℕ)) → IsLabel label → AllByRecursion (λ k. k ≢ 58) (label_text label)
no_colon_label None h = (differ 95 58 refl, tt)
no_colon_label (Some text) h = no_colon text h.0

-- the end is no label
not_end : (text rest : List ℕ) → IsNameText text → 41 ∷ [] ≡ text ++ (58 ∷ rest) → ⊥
unfolding head
not_end [] rest h e = differ 41 58 refl (ap head e)
not_end (c ∷ text) rest h e = h.0.1 (sym (ap head e))

not_end_label : (label : Option (List ℕ)) (rest : List ℕ) → IsLabel label → 41 ∷ [] ≡ label_text label ++ (58 ∷ rest) → ⊥
unfolding head
not_end_label None rest h e = differ 41 95 refl (ap head e)
not_end_label (Some text) rest h e = not_end text rest h.0 e

same_label : (label other : Option (List ℕ)) → IsLabel label → IsLabel other → label_text label ≡ label_text other → label ≡ other
same_label None None h k e = refl
same_label None (Some text) h k e = absurd (k.1 (sym e))
same_label (Some text) None h k e = absurd (h.1 e)
same_label (Some text) (Some other) h k e = ap Some e

same_labels : (labels others : List (Option (List ℕ))) → AreLabels labels → AreLabels others → labels_text labels ≡ labels_text others → labels ≡ others
same_labels [] [] h k e = refl
same_labels [] (label ∷ more) h k e = absurd (not_end_label label (labels_text more) k.0 e)
same_labels (label ∷ more) [] h k e = absurd (not_end_label label (labels_text more) h.0 (sym e))
same_labels (label ∷ more) (other ∷ others) h k e =
    let r = split_at 58 (label_text label) (label_text other) (labels_text more) (labels_text others)
    (no_colon_label label h.0) (no_colon_label other k.0) e in
    λ i. same_label label other h.0 k.0 r.0 i ∷ same_labels more others h.1 k.1 r.1 i

pub tell_apart : (base other : List ℕ) (labels others : List (Option (List ℕ))) → IsNameText base → IsNameText other → AreLabels labels → AreLabels others
    → full_name base labels ≡ full_name other others → (base ≡ other) × (labels ≡ others)
tell_apart base other labels others p q h k e =
    let r = split_at 40 base other (labels_text labels) (labels_text others) (no_open base p) (no_open other q) e in
    (r.0, same_labels labels others h k r.1)
