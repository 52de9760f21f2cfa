-- Maps whose keys are seen through a function f, as a `Vec` is as its bytes.
use Rattle.std.proofs.Common.{◌≡◌, ℕ, Bool, true, false, cond, if◌then◌else◌, List, [], ◌∷◌, Option, Some, None, refl, sym, ap, subst, ◌∙◌, true≢false}
use Rattle.std.specs.Map.{lookup}
use Rattle.std.specs.Str.{bytes_eq}
use Rattle.hy_tree.specs.Names.{Names, with_name}
use Rattle.hy_tree.specs.declared.meant.Meant.{Meant}
use Rattle.indexmap.specs.IndexMap.{insert_entry}
use Rattle.std.proofs.lemmas.Slice.Eq.{bytes_eq-Decides}

both : {X : Type 0} (b : Bool) (v w : X) (o : Option X) → cond b (Some v) o ≡ cond b (Some v) (cond b (Some w) o)
both true v w o = refl
both false v w o = refl

apart : {X : Type 0} (b c : Bool) (v w : X) (o : Option X) → (b ≡ true → c ≡ true → ⊥) → cond c (Some w) (cond b (Some v) o)
    ≡ cond b (Some v) (cond c (Some w) o)
apart true true v w o h = absurd (h refl refl)
apart true false v w o h = refl
apart false true v w o h = refl
apart false false v w o h = refl

abbrev pub same_by : {K : Type 0} → (K → List ℕ) → K → K → Bool
same_by f x y = bytes_eq (f x) (f y)

module _ {K X : Type 0} (f : K → List ℕ) (k : K) (v : X) (name : List ℕ) where
  abbrev found : List (K × X) → Option X
  found es = lookup (λ key. bytes_eq name (f key)) es

  put_before : (e : K × X) (es : List (K × X)) → found (insert_entry (same_by f) es k v) ≡ cond (bytes_eq name (f k)) (Some v) (found es) → (b : Bool)
      → same_by f k e.0 ≡ b
      → found (if b then (e.0, v) ∷ es else e ∷ insert_entry (same_by f) es k v) ≡ cond (bytes_eq name (f k)) (Some v)
      (cond (bytes_eq name (f e.0)) (Some e.1) (found es))
  put_before e es before true h =
      let one : f k ≡ f e.0 = (bytes_eq-Decides (f k) (f e.0)).0 h in
      both (bytes_eq name (f e.0)) v e.1 (found es) ∙ ap (λ n. cond (bytes_eq name n) (Some v) (cond (bytes_eq name (f e.0)) (Some e.1) (found es))) (sym one)
  put_before e es before false h =
      ap (λ o. cond (bytes_eq name (f e.0)) (Some e.1) o) before
      ∙ apart (bytes_eq name (f k)) (bytes_eq name (f e.0)) v e.1 (found es)
      (λ p q. true≢false (sym ((bytes_eq-Decides (f k) (f e.0)).1 (sym ((bytes_eq-Decides name (f k)).0 p) ∙ (bytes_eq-Decides name (f e.0)).0 q)) ∙ h))

  -- what a look-up finds after an entry is put
  pub looked_up : (es : List (K × X)) → found (insert_entry (same_by f) es k v) ≡ cond (bytes_eq name (f k)) (Some v) (found es)
  looked_up [] = refl
  looked_up (e ∷ es) = put_before e es (looked_up es) (same_by f k e.0) refl

-- a name is put after others that are known
pub named_behind : (old new known : Names) (text name : List ℕ) (meant : Meant) → new ≡ with_name text meant old → text ≡ name → old ≡ known → new
    ≡ with_name name meant known
named_behind old new known text name meant put same is = put ∙ (λ i. with_name (same i) meant (is i))
