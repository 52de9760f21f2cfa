-- Look-ups in maps.
use Rattle.std.proofs.Common.{◌≡◌, Bool, true, false, cond, if◌then◌else◌, List, [], ◌∷◌, Option, Some, refl, sym, ap, ◌∙◌, true≢false}
use Rattle.std.specs.Bool.{Decides}
use Rattle.std.specs.Map.{lookup}
use Rattle.indexmap.specs.IndexMap.{insert_entry}

both : {X : Type 0} (b : Bool) (v w : X) (o : Option X) → cond b (Some v) o ≡ cond b (Some v) (cond b (Some w) o)
both true v w o = refl
both false v w o = refl

apart : {X : Type 0} (b c : Bool) (v w : X) (o : Option X) → (b ≡ true → c ≡ true → ⊥) → cond c (Some w) (cond b (Some v) o)
    ≡ cond b (Some v) (cond c (Some w) o)
apart true true v w o h = absurd (h refl refl)
apart true false v w o h = refl
apart false true v w o h = refl
apart false false v w o h = refl

module _ {K X : Type 0} (same : K → K → Bool) (tells : (a b : K) → Decides (same a b) (a ≡ b)) (k : K) (v : X) (wanted : K) where
  abbrev found : List (K × X) → Option X
  found es = lookup (λ other. same wanted other) es

  put_before : (e : K × X) (es : List (K × X)) → found (insert_entry same es k v) ≡ cond (same wanted k) (Some v) (found es) → (b : Bool)
      → same k e.0 ≡ b
      → found (if b then (e.0, v) ∷ es else e ∷ insert_entry same es k v) ≡ cond (same wanted k) (Some v)
      (cond (same wanted e.0) (Some e.1) (found es))
  put_before e es before true h =
      let one : k ≡ e.0 = (tells k e.0).0 h in
      both (same wanted e.0) v e.1 (found es) ∙ ap (λ n. cond (same wanted n) (Some v) (cond (same wanted e.0) (Some e.1) (found es))) (sym one)
  put_before e es before false h =
      ap (λ o. cond (same wanted e.0) (Some e.1) o) before
      ∙ apart (same wanted k) (same wanted e.0) v e.1 (found es)
      (λ p q. true≢false (sym ((tells k e.0).1 (sym ((tells wanted k).0 p) ∙ (tells wanted e.0).0 q)) ∙ h))

  -- what a look-up finds after an entry is put
  pub looked_up : (es : List (K × X)) → found (insert_entry same es k v) ≡ cond (same wanted k) (Some v) (found es)
  looked_up [] = refl
  looked_up (e ∷ es) = put_before e es (looked_up es) (same k e.0) refl
