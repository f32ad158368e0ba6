-- What an item that comes or goes does to the tallies of a group.
use Rattle.std.specs.Prelude.{◌≡◌, ℕ, ◌*◌, ◌<◌, ◌≤◌, ◌⊎◌, List, [], Option, Some, None, All, true}
use Rattle.std.specs.Prelude.{length, slice_index}
use Rattle.pcb_model.specs.declared.item.Item.{Item}
use Rattle.pcb_model.specs.declared.item.Probe.{Probe}
use Rattle.pcb_model.specs.declared.item.Probe.TheVariants as probe
use Rattle.pcb_model.specs.declared.design.Design.{Design}
use Rattle.route_lattice.specs.Mesh.{Mesh, node_count, level, point_of}
use Rattle.pcb_model.specs.Pieces.{padstack_pieces}
use Rattle.pcb_model.specs.Sound.{IsItemOf}
use Rattle.route_lattice.specs.Near.{are_near_at}
use Rattle.geo_kernel.specs.declared.point.Point.{Point}
use Rattle.route_lattice.specs.Ways.{way_count}
use Rattle.route_lattice.specs.Legal.{probe_at, CanMove}
use Rattle.move_maps.specs.declared.margins.Margins.{Margins}
use Rattle.move_maps.specs.declared.window.Window.{Window}
use Rattle.move_maps.specs.declared.brush.Stroke.{Stroke}
use Rattle.move_maps.specs.declared.brush.Stroke.TheVariants.{Comes, Goes, Stays}
use Rattle.move_maps.specs.Clear.{IsClearOf}
use Rattle.move_maps.specs.Settings.{GroupOf}
use Rattle.move_maps.specs.Margins.{AreMargins}
use Rattle.move_maps.specs.Maps.{more, fewer, place_at, IsTally}
use Rattle.move_maps.specs.Windows.{IsOutOf, IsOutOfAll}

-- the move is clear of the item, or there is none
abbrev pub IsClearAt : Design → ℕ → Item → Option Probe → Type 0
IsClearAt d g b None = Unit {0}
IsClearAt d g b (Some p) = IsClearOf d g p b

-- the tally of a move that the item shuts: one more where the item comes, one fewer where it goes, and the top where it
-- stays for good
abbrev pub turned : Stroke → ℕ → ℕ
turned Comes n = more n
turned Goes n = fewer n
turned Stays n = 255

-- the tally stays where the move is clear of the item or the tally is the top, and is turned elsewhere
abbrev pub IsRepainted : Stroke → Design → ℕ → Item → Option Probe → ℕ → ℕ → Type 0
IsRepainted stroke d g b o x y = (IsClearAt d g b o × (y ≡ x))
    ⊎ ((¬ (IsClearAt d g b o) × (y ≡ turned stroke x)) ⊎ ((x ≡ 255) × (y ≡ 255)))

-- new is old with the item painted at the places from one to below another; all others are as they
-- were
pub record Paints (stroke : Stroke) (d : Design) (m : Mesh) (g : ℕ) (b : Item) (from to : ℕ)
    (old new : List ℕ) : Type 0 where
  pub size : length new ≡ length old
  pub painted : (v i : ℕ) → i < way_count d m g → from ≤ place_at d m g v i → place_at d m g v i < to
      → IsRepainted stroke d g b (probe_at d m g v i) (slice_index old (place_at d m g v i))
      (slice_index new (place_at d m g v i))
  pub kept : (k : ℕ) → k < from ⊎ to ≤ k → slice_index new k ≡ slice_index old k

-- each move's tally of these items stands at its place
pub record AreTallied (d : Design) (m : Mesh) (g : ℕ) (items : List Item) (counts : List ℕ) : Type 0 where
  pub size : length counts ≡ node_count m * way_count d m g
  pub each : (v i : ℕ) → v < node_count m → i < way_count d m g
      → IsTally d g items (probe_at d m g v i) (slice_index counts (place_at d m g v i))

-- each place is as it was and its move clear of all the items, or has the top
pub record Shuts (d : Design) (m : Mesh) (g : ℕ) (items : List Item) (old new : List ℕ) : Type 0 where
  pub size : length new ≡ length old
  pub each : (v i : ℕ) → v < node_count m → i < way_count d m g → (slice_index new (place_at d m g v i) ≡ 255)
      ⊎ ((slice_index new (place_at d m g v i) ≡ slice_index old (place_at d m g v i))
      × All (λ (b : Item). IsClearAt d g b (probe_at d m g v i)) items)

-- all moves of the nodes out of the window are clear of the item
pub record Covers (d : Design) (m : Mesh) (g : ℕ) (b : Item) (w : Window) : Type 0 where
  pub each : (v i : ℕ) → v < node_count m → i < way_count d m g → IsOutOf m w v → IsClearAt d g b (probe_at d m g v i)

-- all steps are
pub record CoversSteps (d : Design) (m : Mesh) (g : ℕ) (b : Item) (w : Window) : Type 0 where
  pub each : (v i : ℕ) → v < node_count m → i < 4 → IsOutOf m w v → IsClearAt d g b (probe_at d m g v i)

-- all vias of the padstack are
pub record CoversVia (d : Design) (m : Mesh) (g : ℕ) (b : Item) (padstack : ℕ) (w : Window) : Type 0 where
  pub each : (v : ℕ) → v < node_count m → IsOutOf m w v → IsClearOf d g (probe.Via padstack (point_of m v)) b

-- all moves of the nodes out of all the windows are clear of the item
pub record CoverTogether (d : Design) (m : Mesh) (g : ℕ) (b : Item) (ws : List Window) : Type 0 where
  pub each : (v i : ℕ) → v < node_count m → i < way_count d m g → IsOutOfAll m ws v
      → IsClearAt d g b (probe_at d m g v i)

-- what the old windows cover the new ones do, and these items too
pub record TakeIn (d : Design) (m : Mesh) (g : ℕ) (items : List Item) (old new : List Window) : Type 0 where
  pub kept : (a : Item) → CoverTogether d m g a old → CoverTogether d m g a new
  pub taken : All (λ (a : Item). CoverTogether d m g a new) items

-- the window's places are those of lines
pub record IsWindowIn (m : Mesh) (w : Window) : Type 0 where
  pub columns : w.left ≤ w.right
  pub right : w.right ≤ length m.xs
  pub rows : w.bottom ≤ w.top
  pub top : w.top ≤ length m.ys

-- the window w is in the window u
pub record IsHeld (w u : Window) : Type 0 where
  pub left : u.left ≤ w.left
  pub right : w.right ≤ u.right
  pub bottom : u.bottom ≤ w.bottom
  pub top : w.top ≤ u.top

-- the moves below a number, at each node of a signal layer, are clear of the item
pub record AreFirstClear (d : Design) (m : Mesh) (g : ℕ) (b : Item) (l first : ℕ) : Type 0 where
  pub within : first ≤ way_count d m g
  pub each : (v i : ℕ) → v < node_count m → level m v ≡ l → i < first → IsClearAt d g b (probe_at d m g v i)

-- what a brush is to a caller: a group, an item and what it does, what was looked up once of both, and the windows of
-- the nodes whose moves the item may shut: one of all, and those of its parts
pub record BrushOf : Type 0 where
  pub group : GroupOf
  pub item : Item
  pub stroke : Stroke
  pub margins : Margins
  pub window : Window
  pub windows : List Window

abbrev pub brush_of : GroupOf → Item → Stroke → Margins → Window → List Window → BrushOf
brush_of group item stroke margins window windows = record {
  group = group;
  item = item;
  stroke = stroke;
  margins = margins;
  window = window;
  windows = windows;
}

-- the item is one of the design, and all of this is of the group and the item
pub record IsBrush (s : BrushOf) : Type 0 where
  pub can_move : CanMove s.group.d s.group.lat s.group.first 0
  pub item : IsItemOf s.group.d s.item
  pub margins : AreMargins s.group.d s.group.first s.item s.margins
  pub covers : Covers s.group.d s.group.lat s.group.first s.item s.window
  pub window : IsWindowIn s.group.lat s.window
  pub together : CoverTogether s.group.d s.group.lat s.group.first s.item s.windows

-- new is old with the brush's item painted at the places from one to below another
abbrev pub IsPainted : BrushOf → ℕ → ℕ → List ℕ → List ℕ → Type 0
IsPainted s from to old new = Paints s.stroke s.group.d s.group.lat s.group.first s.item from to old new

-- the move of the brush's group is clear of its item
abbrev pub IsClearAtMove : BrushOf → ℕ → ℕ → Type 0
IsClearAtMove s node i = IsClearAt s.group.d s.group.first s.item (probe_at s.group.d s.group.lat s.group.first node i)

-- the via of the padstack, where it fits at the point, is clear of the item
abbrev pub IsStackClear : BrushOf → ℕ → Point → Type 0
IsStackClear s padstack at = are_near_at at (padstack_pieces s.group.d padstack) ≡ true
    → IsClearOf s.group.d s.group.first (probe.Via padstack at) s.item

-- how many moves a node has for the brush's group
abbrev pub arity_of : BrushOf → ℕ
arity_of s = way_count s.group.d s.group.lat s.group.first

-- the counts of the first places of the table, where there is no item
pub record IsFilled (d : Design) (m : Mesh) (g to : ℕ) (counts : List ℕ) : Type 0 where
  pub size : length counts ≡ to
  pub each : (v i : ℕ) → i < way_count d m g → place_at d m g v i < to
      → IsTally d g [] (probe_at d m g v i) (slice_index counts (place_at d m g v i))
