-- What a walk along the edges of a graph knows. It has a path of nodes, parted into groups: from each node of the path there is a way
-- to those after it, and from each node of a group to all of the group.
use Rattle.std.specs.Prelude.{◌≡◌, ◌<◌, ◌≤◌, ◌-◌, ◌⊎◌, ◌↔◌, ◌++◌, ◌+◌, ◌*◌, ℕ, Bool, true, false, List, [], ◌∷◌, length, take, slice_index_or, slice_set}
use Rattle.hy_cycles.specs.Graph.{Graph, next, Reaches}
use Rattle.hy_cycles.specs.declared.walk.Place.{Place}
use Rattle.hy_cycles.specs.declared.walk.Place.TheVariants.{New, On, Done}
use Rattle.hy_cycles.specs.declared.walk.Walk.{Walk}

pub record State : Type 0 where
  pub places : List Place
  pub taken : List ℕ
  pub path : List ℕ
  pub starts : List ℕ
  pub trail : List ℕ
  pub flags : List Bool

abbrev pub shown : Walk → State
shown walk = record {
  places = walk.places.items;
  taken = walk.taken.items;
  path = walk.path.items;
  starts = walk.starts.items;
  trail = walk.trail.items;
  flags = walk.flags.items;
}

-- where a node stands
abbrev pub place_of : List Place → ℕ → Place
place_of places node = slice_index_or places node New

abbrev pub at : List ℕ → ℕ → ℕ
at list k = slice_index_or list k 0

-- a list has a number
pub record Has (list : List ℕ) (number : ℕ) : Type 0 where
  pub index : ℕ
  pub inside : index < length list
  pub is : at list index ≡ number

-- a list of numbers rises
abbrev pub Rises : List ℕ → Type 0
Rises list = (i j : ℕ) → i < j → j < length list → at list i < at list j

-- no group begins after the one place, and not after the other
abbrev pub NoStart : List ℕ → ℕ → ℕ → Type 0
NoStart starts i j = (k : ℕ) → k < length starts → i < at starts k → j < at starts k

-- the edge that was taken from a place of the path to a node led to what is done, or to a place of the same group or a later one
abbrev pub Led : List Place → List ℕ → ℕ → ℕ → Type 0
Led places starts i to =
    (place_of places to ≡ Done) ⊎ ((j : ℕ) × (place_of places to ≡ On j) × ((k : ℕ) → k < length starts → at starts k ≤ i → at starts k ≤ j))

-- what is known at each step of a walk
pub record Stands (graph : Graph) (s : State) : Type 0 where
  pub places_long : length s.places ≡ length graph
  pub taken_long : length s.taken ≡ length graph
  pub flags_long : length s.flags ≡ length graph
  -- nodes that were not met have no edge that was taken
  pub fresh : (node : ℕ) → place_of s.places node ≡ New → at s.taken node ≡ 0
  -- the path, each node once
  pub on_path : (i : ℕ) → i < length s.path → place_of s.places (at s.path i) ≡ On i
  pub is_path : (node i : ℕ) → place_of s.places node ≡ On i → (i < length s.path) × (at s.path i ≡ node)
  -- ways along the path, and back in each group
  pub forward : (i j : ℕ) → i < j → j < length s.path → Reaches graph (at s.path i) (at s.path j)
  pub back : (i j : ℕ) → i < j → j < length s.path → NoStart s.starts i j → Reaches graph (at s.path j) (at s.path i)
  -- edges that were taken
  pub led : (i k : ℕ) → i < length s.path → k < at s.taken (at s.path i) → Led s.places s.starts i (at (next graph (at s.path i)) k)
  -- what is done leads to what is done, and is told whether it lies on a cycle
  pub closed : (node k : ℕ) → place_of s.places node ≡ Done → k < length (next graph node) → place_of s.places (at (next graph node) k) ≡ Done
  pub told : (node : ℕ) → place_of s.places node ≡ Done → (slice_index_or s.flags node false ≡ true) ↔ Reaches graph node node
  -- the trail: the places of the path whose edges are not all taken
  pub trail_rises : Rises s.trail
  pub trail_inside : (k : ℕ) → k < length s.trail → at s.trail k < length s.path
  pub left : (i : ℕ) → i < length s.path → Has s.trail i ⊎ (length (next graph (at s.path i)) ≤ at s.taken (at s.path i))
  -- groups begin at places of the trail, the first with the path
  pub starts_rise : Rises s.starts
  pub starts_left : (k : ℕ) → k < length s.starts → Has s.trail (at s.starts k)
  pub first : 0 < length s.path → (0 < length s.starts) × (at s.starts 0 ≡ 0)

-- STEPS

-- a node is put on the path, as a group of its own
abbrev pub entered : State → ℕ → State
entered s node = record s {
  places = slice_set s.places node (On (length s.path));
  path = s.path ++ node ∷ [];
  starts = s.starts ++ length s.path ∷ [];
  trail = s.trail ++ length s.path ∷ [];
}

-- the numbers of a list that rises, up to a bound
pub record CutTo (bound : ℕ) (old new : List ℕ) : Type 0 where
  pub count : ℕ
  pub inside : count ≤ length old
  pub is : new ≡ take count old
  pub most : 0 < count → at old (count - 1) ≤ bound
  pub past : (k : ℕ) → count ≤ k → k < length old → bound < at old k

-- the last group of the path, which begins at a place, is done; each node of it is told this
pub record Closes (start : ℕ) (flag : Bool) (old new : State) : Type 0 where
  pub places_long : length new.places ≡ length old.places
  pub flags_long : length new.flags ≡ length old.flags
  pub ended : (node i : ℕ) → place_of old.places node ≡ On i → start ≤ i
      → (place_of new.places node ≡ Done) × (slice_index_or new.flags node false ≡ flag)
  pub others : (node : ℕ) → ((i : ℕ) → place_of old.places node ≡ On i → i < start)
      → (place_of new.places node ≡ place_of old.places node) × (slice_index_or new.flags node false ≡ slice_index_or old.flags node false)
  pub taken : new.taken ≡ old.taken
  pub path : new.path ≡ take start old.path
  pub starts : new.starts ≡ take (length old.starts - 1) old.starts
  pub trail : new.trail ≡ take (length old.trail - 1) old.trail

-- how many edges are left
abbrev pub left_edges : Graph → List ℕ → ℕ
left_edges [] taken = 0
left_edges (edges ∷ graph) [] = 0
left_edges (edges ∷ graph) (t ∷ taken) = (length edges - t) + left_edges graph taken

-- what becomes less with each step
abbrev pub measure : Graph → State → ℕ
measure graph s = 2 * left_edges graph s.taken + length s.trail

-- what was met stays met
abbrev pub StayMet : State → State → Type 0
StayMet old new = (node : ℕ) → place_of new.places node ≡ New → place_of old.places node ≡ New

-- each edge leads to a node
abbrev pub HasNodes : Graph → Type 0
HasNodes graph = (node k : ℕ) → k < length (next graph node) → at (next graph node) k < length graph
