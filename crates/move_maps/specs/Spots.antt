-- Nodes whose places among the lines are known.
use Rattle.std.specs.Prelude.{◌≡◌, ℕ, ℤ, pos, ◌+◌, ◌-◌, ◌<◌, List, length, slice_index_or, nat_lt, cond}
use Rattle.std.specs.Prelude.{Bool, not, ◌&&◌, ◌==◌, Option, Some, None}
use Rattle.std.specs.Option.{option_map}
use Rattle.geo_kernel.specs.declared.point.Point.{Point}
use Rattle.pcb_model.specs.declared.item.Piece.{Piece}
use Rattle.route_lattice.specs.declared.moves.Move.{Move}
use Rattle.route_lattice.specs.Mesh.{Mesh, node_count, column, row, level, point_of, layer_of}
use Rattle.route_lattice.specs.Ways.{step_at, has_copper}
use Rattle.move_maps.specs.declared.spot.Crossing.{Crossing}
use Rattle.move_maps.specs.declared.spot.Spot.{Spot}

-- the node is one, and the places are its own
pub record IsCrossing (m : Mesh) (x : Crossing) : Type 0 where
  pub there : x.node < node_count m
  pub level_is : level m x.node ≡ x.level
  pub row_is : row m x.node ≡ x.row
  pub column_is : column m x.node ≡ x.column

-- the node's places, its point and its layer
pub record IsSpotOf (m : Mesh) (s : Spot) : Type 0 where
  pub there : s.node < node_count m
  pub row_is : row m s.node ≡ s.row
  pub column_is : column m s.node ≡ s.column
  pub at_is : s.at ≡ point_of m s.node
  pub layer_is : s.layer ≡ layer_of m s.node

-- where the step of a direction leads
abbrev pub next_point : Mesh → ℕ → ℕ → Option Point
next_point m v dir = option_map (λ (w : Move × ℕ). point_of m w.1) (step_at m v dir)

-- the line after one, and the line before it
abbrev pub line_after : List ℤ → ℕ → Option ℤ
line_after zs i = cond (nat_lt (i + 1) (length zs)) (Some (slice_index_or zs (i + 1) (pos 0))) None

abbrev pub line_before : List ℤ → ℕ → Option ℤ
line_before zs i = cond (nat_lt 0 i) (Some (slice_index_or zs (i - 1) (pos 0))) None

-- the point of a line across at a height, and that of a line up
abbrev pub across : ℤ → ℤ → Point
across y x = record { x = x; y = y }

abbrev pub up : ℤ → ℤ → Point
up x y = record { x = x; y = y }

-- the pieces have copper on both layers, which aren't one
abbrev pub join_layers : List Piece → ℕ → ℕ → Bool
join_layers ps from to = not (from == to) && (has_copper ps from && has_copper ps to)
