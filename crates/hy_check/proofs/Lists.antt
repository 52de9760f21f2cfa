-- Loops over lists of a tree that meet broken rules.
use Rattle.std.proofs.Common.{◌≡◌, ◌<◌, ◌≤◌, ℕ, ◌+◌, List, length, get_or, map, flat_map, Option, refl}
use Rattle.hy_base.specs.First.{Refusal}
use Rattle.hy_base.proofs.Walks.{IsWalk, HasWalked, walked_more, walked_all}
use Rattle.hy_check.specs.Noted.{note, after}

-- what the first so many of a list break is met
abbrev pub HasMet : {X Y : Type 0} → (X → Y) → (Y → List Refusal) → List X → ℕ → Option Refusal → Option Refusal → Type 0
HasMet of breaks all k old new = HasWalked note (λ (s : Unit {0}) xs. flat_map breaks (map of xs)) tt all old k tt new

module _ {X Y : Type 0} (of : X → Y) (breaks : Y → List Refusal) where
  each_walk : IsWalk (λ (s : Unit {0}) (xs : List X). flat_map breaks (map of xs)) (λ s x. breaks (of x)) (λ s x. s)
  each_walk = record { none = λ s. refl; some = λ s x more. refl }

  pub met_more : (all : List X) (k : ℕ) (old mid new : Option Refusal) (x : X) → x ≡ get_or all k x → k < length all
      → HasMet of breaks all k old mid → new ≡ after (breaks (of x)) mid → HasMet of breaks all (k + 1) old new
  met_more all k old mid new x item lt so step = walked_more note each_walk tt all old k tt mid new x item lt so step

  pub met_all : (all : List X) (k : ℕ) (old new : Option Refusal) → length all ≤ k → HasMet of breaks all k old new
      → new ≡ after (flat_map breaks (map of all)) old
  met_all all k old new end so = walked_all note each_walk tt all old k tt new end so
