-- Stretches of nodes, and the nodes of some.
use Rattle.std.specs.Prelude.{◌≡◌, ◌≤◌, ◌<◌, ℕ, List, length, All, Contains}
use Rattle.std.specs.List.Sorted.{IsStrictlyIncreasing}
use Rattle.route_lattice.specs.Mesh.{Mesh, node_at}
use Rattle.cut_check.specs.declared.stretch.Stretch.{Stretch}

-- the node is of the stretch, which lies on the lattice
pub record IsOfStretch (m : Mesh) (s : Stretch) (node : ℕ) : Type 0 where
  pub level_there : s.level < length m.layers
  pub row_there : s.row < length m.ys
  pub column : ℕ
  pub from : s.first ≤ column
  pub to : column ≤ s.last
  pub there : s.last < length m.xs
  pub is : node ≡ node_at m s.level s.row column

-- the stretch lies on the lattice and has a node
abbrev pub IsOnLattice : Mesh → Stretch → Type 0
IsOnLattice m s = (node : ℕ) × IsOfStretch m s node

-- some stretch has the node
pub record IsOfSome (m : Mesh) (runs : List Stretch) (node : ℕ) : Type 0 where
  pub run : Stretch
  pub there : Contains runs run
  pub of_run : IsOfStretch m run node

-- each stretch lies on the lattice, and the nodes are those of the stretches, ascending
pub record AreNodesOf (m : Mesh) (runs : List Stretch) (nodes : List ℕ) : Type 0 where
  pub on_lattice : All (IsOnLattice m) runs
  pub ascends : IsStrictlyIncreasing nodes
  pub only : (node : ℕ) → Contains nodes node → IsOfSome m runs node
  pub all : (node : ℕ) → IsOfSome m runs node → Contains nodes node
