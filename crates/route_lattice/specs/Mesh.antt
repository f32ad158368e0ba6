-- The nodes of a lattice: the crossings of its lines on each signal layer.
use Rattle.std.specs.Prelude.{ℕ, ℤ, pos, ◌+◌, ◌*◌, ◌/◌, ◌%◌, List, length, slice_index, slice_index_or}
use Rattle.geo_kernel.specs.declared.point.Point.{Point}

-- the grid, the unit of the session, the lines, and the signal layers
pub record Mesh : Type 0 where
  pub grid : ℕ
  pub unit : ℕ
  pub xs : List ℤ
  pub ys : List ℤ
  pub layers : List ℕ

abbrev pub node_count : Mesh → ℕ
node_count m = length m.layers * length m.ys * length m.xs

-- the node of a signal layer, a y line and an x line, each by its place
abbrev pub node_at : Mesh → ℕ → ℕ → ℕ → ℕ
node_at m l j i = (l * length m.ys + j) * length m.xs + i

-- the places of a node's x line, y line and signal layer
abbrev pub column : Mesh → ℕ → ℕ
column m v = v % length m.xs

abbrev pub row : Mesh → ℕ → ℕ
row m v = v / length m.xs % length m.ys

abbrev pub level : Mesh → ℕ → ℕ
level m v = v / length m.xs / length m.ys

abbrev pub point_of : Mesh → ℕ → Point
point_of m v = record { x = slice_index_or m.xs (column m v) (pos 0); y = slice_index_or m.ys (row m v) (pos 0) }

abbrev pub layer_of : Mesh → ℕ → ℕ
layer_of m v = slice_index m.layers (level m v)
