-- The members of types by name, after some are put.
use Rattle.std.proofs.Common.{◌≡◌, ℕ, Bool, true, false, cond, List, Option, Some, None, refl, ap, ◌∙◌}
use Rattle.std.specs.Map.{lookup}
use Rattle.std.specs.Option.{option_map, unwrap_or}
use Rattle.std.specs.Str.{bytes_eq}
use Rattle.indexmap.specs.IndexMap.{insert_entry}
use Rattle.hy_tree.specs.FileNames as N
use Rattle.hy_scope.specs.Shown.{family_of}
use Rattle.hy_scope.specs.declared.families.Family.{Family}
use Rattle.hy_scope.proofs.Keys.{looked_up, same_by}

picked : (b : Bool) (v : Family) (o : Option Family) → unwrap_or (option_map family_of (cond b (Some v) o)) N.no_family
    ≡ cond b (family_of v) (unwrap_or (option_map family_of o) N.no_family)
picked true v o = refl
picked false v o = refl

module _ {K : Type 0} (f : K → List ℕ) (k : K) (v : Family) (es : List (K × Family)) where
  abbrev pub shown : List (K × Family) → List ℕ → N.Family
  shown entries name = unwrap_or (option_map family_of (lookup (λ key. bytes_eq name (f key)) entries)) N.no_family

  pub family_put : (owner : List ℕ) → f k ≡ owner → (name : List ℕ) → shown (insert_entry (same_by f) es k v) name ≡ cond (bytes_eq name owner)
      (family_of v) (shown es name)
  family_put owner e name =
      ap (λ found. unwrap_or (option_map family_of found) N.no_family) (looked_up f k v name es)
      ∙ picked (bytes_eq name (f k)) v (lookup (λ key. bytes_eq name (f key)) es)
      ∙ ap (λ n. cond (bytes_eq name n) (family_of v) (shown es name)) e
