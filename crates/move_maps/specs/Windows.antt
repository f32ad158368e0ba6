-- Which nodes a box may shut moves of.
use Rattle.std.specs.Prelude.{ℕ, pos, ◌+◌, ◌*◌, ◌<◌, ◌≤◌, ◌-ℤ◌, ◌+ℤ◌, ◌≤ℤ◌, ◌<ℤ◌, ◌⊎◌, ◌≡◌, length, slice_index_or}
use Rattle.std.specs.Prelude.{List, Some, All}
use Rattle.geo_kernel.specs.declared.point.Rect4.{Rect4}
use Rattle.pcb_model.specs.declared.item.Item.{Item}
use Rattle.pcb_model.specs.declared.item.Probe.{Probe}
use Rattle.pcb_model.specs.declared.item.Probe.TheVariants as probe
use Rattle.pcb_model.specs.Pieces.{padstack_pieces}
use Rattle.pcb_model.specs.declared.design.Design.{Design}
use Rattle.pcb_model.specs.declared.near.Extent.{Extent}
use Rattle.pcb_model.specs.Bounds.{HasRulesWithin}
use Rattle.pcb_model.specs.Rules.{width_for}
use Rattle.pcb_model.specs.Near.{IsExtentOf}
use Rattle.pcb_model.specs.Sound.{IsSound}
use Rattle.route_lattice.specs.Fits.{FitsDesign}
use Rattle.route_lattice.specs.Mesh.{Mesh, node_count, column, row, point_of}
use Rattle.route_lattice.specs.Legal.{probe_at}
use Rattle.move_maps.specs.declared.window.Window.{Window}
use Rattle.move_maps.specs.Clear.{IsClearOf}

-- the lines that aren't in the window are outside the box
pub record LeavesOut (m : Mesh) (r : Rect4) (w : Window) : Type 0 where
  pub left : (k : ℕ) → k < w.left → slice_index_or m.xs k (pos 0) <ℤ r.x0
  pub right : (k : ℕ) → w.right ≤ k → k < length m.xs → r.x1 <ℤ slice_index_or m.xs k (pos 0)
  pub bottom : (k : ℕ) → k < w.bottom → slice_index_or m.ys k (pos 0) <ℤ r.y0
  pub top : (k : ℕ) → w.top ≤ k → k < length m.ys → r.y1 <ℤ slice_index_or m.ys k (pos 0)

-- the lines that aren't in the window are beyond the box by at least grow
pub record IsWindowFor (m : Mesh) (r : Rect4) (grow : ℕ) (w : Window) : Type 0 where
  pub left : (k : ℕ) → k < w.left → slice_index_or m.xs k (pos 0) ≤ℤ (r.x0 -ℤ pos grow)
  pub right : (k : ℕ) → w.right ≤ k → k < length m.xs → (r.x1 +ℤ pos grow) ≤ℤ slice_index_or m.xs k (pos 0)
  pub bottom : (k : ℕ) → k < w.bottom → slice_index_or m.ys k (pos 0) ≤ℤ (r.y0 -ℤ pos grow)
  pub top : (k : ℕ) → w.top ≤ k → k < length m.ys → (r.y1 +ℤ pos grow) ≤ℤ slice_index_or m.ys k (pos 0)

-- the node is neither in the window nor beside it
abbrev pub IsOff : Mesh → Window → ℕ → Type 0
IsOff m w v = (column m v + 1 < w.left ⊎ w.right < column m v) ⊎ (row m v + 1 < w.bottom ⊎ w.top < row m v)

-- the steps of the nodes that are off the window are clear of the item
abbrev pub AreStepsClear : Design → Mesh → ℕ → Item → Window → Type 0
AreStepsClear d m g b w = (v i : ℕ) (p : Probe) → v < node_count m → i < 4 → IsOff m w v → probe_at d m g v i ≡ Some p
    → IsClearOf d g p b

-- the box of the item, grown by the reach of all rules and half of both widths, gives such a window
abbrev pub StepsOffAreClear : Type 0
StepsOffAreClear = (d : Design) (m : Mesh) (g : ℕ) (b : Item) (f : Extent) (reach grow : ℕ) (w : Window) → IsSound d
    → FitsDesign d m → HasRulesWithin reach d → IsExtentOf b.pieces f
    → 2 * reach + width_for d g + f.width + 1 ≤ 2 * grow → IsWindowFor m f.bounds grow w → AreStepsClear d m g b w

-- the node isn't in the window
abbrev pub IsOutOf : Mesh → Window → ℕ → Type 0
IsOutOf m w v = (column m v < w.left ⊎ w.right ≤ column m v) ⊎ (row m v < w.bottom ⊎ w.top ≤ row m v)

-- a column and a row that aren't both in the window
abbrev pub IsPlaceOut : Window → ℕ → ℕ → Type 0
IsPlaceOut w c r = (c < w.left ⊎ w.right ≤ c) ⊎ (r < w.bottom ⊎ w.top ≤ r)

-- the node is out of all these windows
abbrev pub IsOutOfAll : Mesh → List Window → ℕ → Type 0
IsOutOfAll m ws v = All (λ (w : Window). IsOutOf m w v) ws

-- a node out of the new windows is out of one more window than the old ones
pub record Widens (old : List Window) (w : Window) (new : List Window) : Type 0 where
  pub each : (m : Mesh) (v : ℕ) → IsOutOfAll m new v → IsOutOfAll m old v × IsOutOf m w v

-- in a row, all columns out of these are out of all the windows; they are columns of a lattice
pub record IsSpanOf (ws : List Window) (columns row left right : ℕ) : Type 0 where
  pub outs : (c : ℕ) → c < columns → c < left ⊎ right ≤ c → All (λ (w : Window). IsPlaceOut w c row) ws
  pub within : right ≤ columns

-- where a point may be for a padstack about it to meet an item: the item's box, moved out by the padstack's
abbrev pub around : Rect4 → Rect4 → Rect4
around r e = record { x0 = r.x0 -ℤ e.x1; y0 = r.y0 -ℤ e.y1; x1 = r.x1 -ℤ e.x0; y1 = r.y1 -ℤ e.y0 }

-- the vias of a padstack at the points of nodes that are out of a window for that box are clear of the item
abbrev pub ViasOutAreClear : Type 0
ViasOutAreClear = (d : Design) (m : Mesh) (g padstack : ℕ) (b : Item) (e f : Extent) (reach grow : ℕ) (w : Window)
    (v : ℕ) → HasRulesWithin reach d → IsExtentOf (padstack_pieces d padstack) e → IsExtentOf b.pieces f
    → 2 * reach + e.width + f.width + 1 ≤ 2 * grow → IsWindowFor m (around f.bounds e.bounds) grow w → v < node_count m
    → IsOutOf m w v → IsClearOf d g (probe.Via padstack (point_of m v)) b
