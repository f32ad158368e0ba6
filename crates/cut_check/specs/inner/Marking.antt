-- Marks on nodes.
use Rattle.std.specs.Prelude.{◌≡◌, ◌↔◌, ◌⊎◌, ◌≤◌, ◌<◌, ℕ, Bool, List, Contains, length}
use Rattle.std.specs.List.Sorted.{IsStrictlyIncreasing}
use Rattle.route_lattice.specs.Mesh.{Mesh, node_at}
use Rattle.cut_check.specs.Marks.{IsMarked}
use Rattle.cut_check.specs.declared.stretch.Stretch.{Stretch}

-- marks for so many nodes, of which those of the nodes are set
pub record AreMarked (count : ℕ) (marks : List Bool) (nodes : List ℕ) : Type 0 where
  pub size : length marks ≡ count
  pub there : (v : ℕ) → Contains nodes v → v < count
  pub exact : (v : ℕ) → IsMarked marks v ↔ Contains nodes v

-- the new nodes are the old ones and those that have P
pub record Gains (P : ℕ → Type 0) (old new : List ℕ) : Type 0 where
  pub kept : (v : ℕ) → Contains old v → Contains new v
  pub gained : (v : ℕ) → P v → Contains new v
  pub only : (v : ℕ) → Contains new v → Contains old v ⊎ P v

-- a node of the stretch before a column
pub record IsBefore (m : Mesh) (s : Stretch) (column v : ℕ) : Type 0 where
  pub at : ℕ
  pub from : s.first ≤ at
  pub below : at < column
  pub is : v ≡ node_at m s.level s.row at

-- the marks of these nodes aren't set, the others are as before
pub record AreCleared (nodes : List ℕ) (old new : List Bool) : Type 0 where
  pub size : length new ≡ length old
  pub cleared : (v : ℕ) → Contains nodes v → IsMarked new v → ⊥
  pub only : (v : ℕ) → IsMarked new v → IsMarked old v

-- the same nodes, ascending
pub record AreSorted (xs ys : List ℕ) : Type 0 where
  pub ascends : IsStrictlyIncreasing ys
  pub only : (v : ℕ) → Contains ys v → Contains xs v
  pub all : (v : ℕ) → Contains xs v → Contains ys v
