-- Graphs, and ways along their edges.
use Rattle.std.specs.Prelude.{ℕ, List, [], map, slice_index_or, Contains, Vec}

-- A graph: for each node, which is a number below their count, the nodes that its edges lead to.
abbrev pub Graph : Type 0
Graph = List (List ℕ)

-- the graph of the edges that are kept for each node
abbrev pub graph_of : {Z : Type 0} → List (Vec ℕ Z) → Graph
graph_of {Z} edges = map (λ (some : Vec ℕ Z). some.items) edges

-- the nodes that the edges of a node lead to; what is no node has none
abbrev pub next : Graph → ℕ → List ℕ
next graph node = slice_index_or graph node []

-- there is a way from a node to another, along one edge or more
pub data Reaches (graph : Graph) : ℕ → ℕ → Type 0 where
  edge : {from to : ℕ} → Contains (next graph from) to → Reaches graph from to
  further : {from by to : ℕ} → Contains (next graph from) by → Reaches graph by to → Reaches graph from to
