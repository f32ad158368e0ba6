-- What the functions of a flood give: marks on nodes, and the marked nodes that wait.
use Rattle.std.specs.Prelude.{◌≡◌, ℕ, ◌+◌, ◌≤◌, ◌<◌, List, [], length, slice_get, Some, Bool, true, not}
use Rattle.std.specs.Prelude.{Contains, AllPairs, ◌⊎◌}
use Rattle.std.specs.List.{count_by}
use Rattle.route_lattice.specs.Walks.{MoveGraph, Hop, Opens, Reaches}
use Rattle.cut_certificate.specs.declared.front.Front.{Front}

-- the marks on nodes, and the nodes that wait for their moves to be followed
pub record Fill : Type 0 where
  pub marks : List Bool
  pub waiting : List ℕ

abbrev pub fill_of : Front → Fill
fill_of f = record { marks = f.marks; waiting = f.waiting.items }

-- the node's mark is set
abbrev pub IsMarked : List Bool → ℕ → Type 0
IsMarked marks v = slice_get marks v ≡ Some true

-- how many nodes aren't marked or wait
unfoldable pub left_in : Fill → ℕ
left_in f = count_by not f.marks + length f.waiting

-- there are marks for so many nodes, none is set, and no node waits
pub record IsBlank (count : ℕ) (f : Fill) : Type 0 where
  pub size : length f.marks ≡ count
  pub none : (v : ℕ) → IsMarked f.marks v → ⊥
  pub empty : f.waiting ≡ []

-- new marks those that old marks and those that have M; what is marked newly waits too
pub record Gains (M : ℕ → Type 0) (old new : Fill) : Type 0 where
  pub size : length new.marks ≡ length old.marks
  pub kept : (v : ℕ) → IsMarked old.marks v → IsMarked new.marks v
  pub gained : (v : ℕ) → M v → IsMarked new.marks v
  pub only : (v : ℕ) → IsMarked new.marks v → IsMarked old.marks v ⊎ (M v × Contains new.waiting v)
  pub stays : (v : ℕ) → Contains old.waiting v → Contains new.waiting v
  pub waits : (v : ℕ) → Contains new.waiting v → Contains old.waiting v ⊎ IsMarked new.marks v
  pub left : left_in new ≡ left_in old

-- an open move of the node, of an index from first to below last, leads to v
pub record IsLedTo (graph : MoveGraph) (node first last v : ℕ) : Type 0 where
  pub hop : Hop
  pub opens : Opens graph node hop
  pub from : first ≤ hop.index
  pub below : hop.index < last
  pub to_is : hop.to ≡ v

-- the open move of an index leads from one node to another
pub record LedOver (graph : MoveGraph) (from to i : ℕ) : Type 0 where
  pub hop : Hop
  pub opens : Opens graph from hop
  pub index_is : hop.index ≡ i
  pub to_is : hop.to ≡ to

-- an open move of the node leads to v
abbrev pub IsNext : MoveGraph → ℕ → ℕ → Type 0
IsNext graph node v = IsLedTo graph node 0 graph.arity v

-- the starts are marked, what is marked is reached, and each marked node waits or leads to marked nodes alone
pub record IsFlood (graph : MoveGraph) (starts : List ℕ) (f : Fill) : Type 0 where
  pub size : length f.marks ≡ graph.count
  pub starts_in : (s : ℕ) → Contains starts s → IsMarked f.marks s
  pub reached : (v : ℕ) → IsMarked f.marks v → Reaches graph starts v
  pub waits : (v : ℕ) → Contains f.waiting v → IsMarked f.marks v
  pub spread : (v : ℕ) (h : Hop) → IsMarked f.marks v → Opens graph v h → Contains f.waiting v ⊎ IsMarked f.marks h.to

-- the nodes are the marked ones below last, ascending
pub record AreListed (marks : List Bool) (last : ℕ) (nodes : List ℕ) : Type 0 where
  pub ascends : AllPairs (λ x y. x < y) nodes
  pub marked : (v : ℕ) → Contains nodes v → IsMarked marks v × (v < last)
  pub complete : (v : ℕ) → v < last → IsMarked marks v → Contains nodes v
