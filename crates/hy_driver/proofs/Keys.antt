-- Keys that are seen through a function f, as a `Vec` is as its bytes.
use Rattle.std.proofs.Common.{◌≡◌, ℕ, ◌+◌, Bool, true, false, ◌||◌, cond, not, List, [], ◌∷◌, ◌++◌, map, get_or, position, nat_lt, is_some}
use Rattle.std.proofs.Common.{if◌then◌else◌, Option, None, Some, refl, sym, ap, ◌∙◌, true≢false}
use Rattle.std.specs.List.{list_any, position_or_len, Contains, IsDistinct, AllByRecursion}
use Rattle.std.specs.Str.{bytes_eq}
use Rattle.std.specs.Cmp.Lexicographic.{nat_list_eq_equiv}
use Rattle.std.proofs.lemmas.List.{length-map, map-append}
use Rattle.std.proofs.lemmas.List.Quantifiers.{position-Some}
use Rattle.std.proofs.lemmas.Map.Views.{Contains-from_any, list_any-from_Contains}
use Rattle.std.proofs.lemmas.Option.{slice_get-get_or}
use Rattle.std.proofs.lemmas.Slice.Eq.{bytes_eq-Decides}
use Rattle.hy_driver.specs.Scopes.{Finds}
use Rattle.hy_driver.specs.Scopes.{is_known, with_name}

module _ {K : Type 0} (f : K → List ℕ) (test : List ℕ → Bool) where
  pub list_any-map : (ks : List K) → list_any (λ k. test (f k)) ks ≡ list_any test (map f ks)
  list_any-map [] = refl
  list_any-map (k ∷ ks) = ap (λ b. test (f k) || b) (list_any-map ks)

  pub position_or_len-map : (ks : List K) → position_or_len (λ k. test (f k)) ks ≡ position_or_len test (map f ks)
  position_or_len-map [] = refl
  position_or_len-map (k ∷ ks) = ap (λ n. cond (not (test (f k))) (1 + n) 0) (position_or_len-map ks)

  pub position-map : (ks : List K) → position (λ k. test (f k)) ks ≡ position test (map f ks)
  position-map ks = λ i. cond (nat_lt (position_or_len-map ks i) (sym (length-map ks f) i)) (Some (position_or_len-map ks i)) None

module _ {K : Type 0} (f : K → List ℕ) where
  apart : (k : K) (ks : List K) (eq : List ℕ → List ℕ → Bool) → AllByRecursion (λ x. eq (f k) (f x) ≡ false) ks
      → AllByRecursion (λ x. eq (f k) x ≡ false) (map f ks)
  apart k [] eq h = tt
  apart k (x ∷ ks) eq h = (h.0, apart k ks eq h.1)

  pub distinct : (eq : List ℕ → List ℕ → Bool) (ks : List K) → IsDistinct (λ x y. eq (f x) (f y)) ks → IsDistinct eq (map f ks)
  unfolding IsDistinct
  distinct eq [] h = tt
  distinct eq (k ∷ ks) h = (apart k ks eq h.0, distinct eq ks h.1)

-- a test finds a name exactly where it is there
pub found : (name : List ℕ) (names : List (List ℕ)) → list_any (bytes_eq name) names ≡ true → Contains names name
found name names h = Contains-from_any (λ x y. (bytes_eq-Decides x y).0) name names h

pub missing : (name : List ℕ) (names : List (List ℕ)) → list_any (bytes_eq name) names ≡ false → Contains names name → ⊥
missing name names h there = true≢false (sym (list_any-from_Contains nat_list_eq_equiv name names there) ∙ h)

-- what a look-up finds
pub finds : (name : List ℕ) (names : List (List ℕ)) (r : Option ℕ) → r ≡ position (bytes_eq name) names → is_some r ≡ list_any (bytes_eq name) names
    → Finds name r names
finds name names None h s = missing name names (sym s)
finds name names (Some i) h s =
    let at = position-Some (bytes_eq name) names i [] (sym h) in
    slice_get-get_or names i [] at.0 ∙ ap Some (sym ((bytes_eq-Decides name (get_or names i [])).0 at.1))

-- the names after a call that puts a key with this name last
module _ {K : Type 0} (f : K → List ℕ) (name : List ℕ) (key : K) (old : List K) (same : f key ≡ name) where
  there : list_any (λ k. bytes_eq (f key) (f k)) old ≡ is_known (map f old) name
  there = list_any-map f (bytes_eq (f key)) old ∙ ap (λ n. list_any (bytes_eq n) (map f old)) same

  pub added_is : (added : Bool) → added ≡ not (list_any (λ k. bytes_eq (f key) (f k)) old) → added ≡ not (is_known (map f old) name)
  added_is added says = says ∙ ap not there

  pub scope_is : (new : List K) → new ≡ (if list_any (λ k. bytes_eq (f key) (f k)) old then old else old ++ key ∷ []) → map f new ≡ with_name (map f old) name
  scope_is new keys = ap (map f) keys ∙ by (list_any (λ k. bytes_eq (f key) (f k)) old) ∙ ap (λ b. if b then map f old else map f old ++ name ∷ []) there
    where
      by : (b : Bool) → map f (if b then old else old ++ key ∷ []) ≡ (if b then map f old else map f old ++ name ∷ [])
      by true = refl
      by false = map-append f old (key ∷ []) ∙ ap (λ n. map f old ++ n ∷ []) same
