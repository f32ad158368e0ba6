-- The tallies of a group before any item comes.
use Rattle.std.specs.Prelude.{◌≡◌, ℕ, ◌+◌, ◌*◌, ◌<◌, Bool}
use Rattle.std.specs.Prelude.{true, List, [], length, slice_index, slice_index_or, All, cond}
use Rattle.std.specs.Prelude.{ℤ, pos, neg_ℤ, ◌+ℤ◌, ◌≤ℤ◌, ◌^◌, false}
use Rattle.geo_kernel.specs.declared.point.Point.{Point}
use Rattle.geo_kernel.specs.Spine.{IsFirst}
use Rattle.pcb_model.specs.declared.item.Piece.{Piece}
use Rattle.pcb_model.specs.declared.design.Design.{Design}
use Rattle.pcb_model.specs.Pieces.{padstack_pieces}
use Rattle.pcb_model.specs.Board.{IsInsideEach}
use Rattle.pcb_model.specs.Sound.{origin}
use Rattle.route_lattice.specs.Mesh.{Mesh, node_count, column, row, level, point_of}
use Rattle.route_lattice.specs.Near.{are_near_at}
use Rattle.route_lattice.specs.Legal.{probe_at}
use Rattle.move_maps.specs.Maps.{IsTally}

-- where a y line and an x line cross, each by its place
abbrev pub crossing : Mesh → ℕ → ℕ → Point
crossing m j i = record { x = slice_index_or m.xs i (pos 0); y = slice_index_or m.ys j (pos 0) }

-- of the first crossings, row by row: where it says true, the crossing lies inside every boundary
pub record AreInner (d : Design) (m : Mesh) (to : ℕ) (inner : List Bool) : Type 0 where
  pub size : length inner ≡ to
  pub each : (j i : ℕ) → i < length m.xs → j * length m.xs + i < to
      → slice_index_or inner (j * length m.xs + i) false ≡ true → IsInsideEach d.bounds (crossing m j i)

-- the crossing is on no outer line, and lies inside every boundary
pub record IsPlain (d : Design) (m : Mesh) (j i : ℕ) : Type 0 where
  pub left : 0 < i
  pub right : i + 1 < length m.xs
  pub bottom : 0 < j
  pub top : j + 1 < length m.ys
  pub inside : IsInsideEach d.bounds (crossing m j i)

-- what reaches from low to high about a coordinate stays within 2^29
pub record StaysNear (low high z : ℤ) : Type 0 where
  pub from : neg_ℤ (pos (2 ^ 29)) ≤ℤ (z +ℤ low)
  pub to : (z +ℤ high) ≤ℤ pos (2 ^ 29)

-- each piece of the padstack begins at the origin, and its vertices stay within 2^29 at each node
pub record IsCentred (d : Design) (m : Mesh) (padstack : ℕ) : Type 0 where
  pub first : All (λ (q : Piece). IsFirst q.spine origin) (padstack_pieces d padstack)
  pub near : (v : ℕ) → v < node_count m → are_near_at (point_of m v) (padstack_pieces d padstack) ≡ true

-- n is a tally of move i, before any item comes, at each plain node of a signal layer
pub record IsStart (d : Design) (m : Mesh) (g l i n : ℕ) : Type 0 where
  pub each : (v : ℕ) → v < node_count m → level m v ≡ l → IsPlain d m (row m v) (column m v)
      → IsTally d g [] (probe_at d m g v i) n

-- the tally at a place, where n is that of a plain node
abbrev pub start_of : Bool → ℕ → ℕ
start_of plain n = cond plain n 255

-- those of the first moves
pub record AreStarts (d : Design) (m : Mesh) (g l to : ℕ) (starts : List ℕ) : Type 0 where
  pub size : length starts ≡ to
  pub each : (i : ℕ) → i < to → IsStart d m g l i (slice_index starts i)
