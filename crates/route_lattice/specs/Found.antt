-- What the private functions that look for anchors give.
use Rattle.std.specs.Prelude.{◌≡◌, ℕ, ℤ, pos, ◌-◌, ◌<◌, ◌≤◌, ◌≤ℤ◌, List, length, slice_index_or, Contains, ◌⊎◌}
use Rattle.std.specs.Int.{int_min, int_max}
use Rattle.std.specs.List.Sorted.{IsStrictlyIncreasing}
use Rattle.geo_kernel.specs.declared.point.Point.{Point}
use Rattle.geo_kernel.specs.declared.point.Rect4.{Rect4}
use Rattle.geo_kernel.specs.Boxes.{IsIn}
use Rattle.pcb_model.specs.Sound.{origin, IsSound, IsItemOf}
use Rattle.pcb_model.specs.declared.item.Item.{Item}
use Rattle.pcb_model.specs.declared.design.Design.{Design}
use Rattle.route_lattice.specs.Mesh.{Mesh, node_count, node_at, point_of}
use Rattle.route_lattice.specs.Fits.{FitsDesign}
use Rattle.route_lattice.specs.Anchors.{Anchors, AnchorsAmong}
use Rattle.route_lattice.specs.declared.found.Window.{Window}

-- what an item on a lattice is to a caller
pub record LatticeItemOf : Type 0 where
  pub d : Design
  pub lat : Mesh
  pub item : Item

-- a sound design, a lattice of it, and an item of it
pub record IsLatticeItem (d : Design) (m : Mesh) (item : Item) : Type 0 where
  pub sound : IsSound d
  pub fits : FitsDesign d m
  pub item_fits : IsItemOf d item

-- new has what old has and all that has Must; what it has is old or has May
pub record Gains (Must May : ℕ → Type 0) (old new : List ℕ) : Type 0 where
  pub keeps : (v : ℕ) → Contains old v → Contains new v
  pub gains : (v : ℕ) → Must v → Contains new v
  pub exact : (v : ℕ) → Contains new v → Contains old v ⊎ May v

-- Q of some index from first to below last
pub record AtSome (Q : ℕ → ℕ → Type 0) (first last v : ℕ) : Type 0 where
  pub index : ℕ
  pub from : first ≤ index
  pub below : index < last
  pub holds : Q index v

-- a node that anchors the item
pub record IsAnchorNode (d : Design) (m : Mesh) (item : Item) (v : ℕ) : Type 0 where
  pub node : v < node_count m
  pub anchors : Anchors d m v item

-- one that anchors an item with the id, or some item with one of the ids
pub record IsAnchorWithId (d : Design) (m : Mesh) (items : List Item) (id v : ℕ) : Type 0 where
  pub item : Item
  pub there : Contains items item
  pub id_is : item.id ≡ id
  pub node : v < node_count m
  pub anchors : Anchors d m v item

pub record IsAnchorAmong (d : Design) (m : Mesh) (items : List Item) (ids : List ℕ) (v : ℕ) : Type 0 where
  pub node : v < node_count m
  pub anchors : AnchorsAmong d m items ids v

-- the node of these places, where it anchors the item
pub record IsAnchorAt (d : Design) (m : Mesh) (item : Item) (l j i v : ℕ) : Type 0 where
  pub is : v ≡ node_at m l j i
  pub anchors : Anchors d m v item

-- the nodes of some columns in a row, of some rows on a level, and those of all levels
abbrev pub IsInRow : Design → Mesh → Item → Window → ℕ → ℕ → ℕ → Type 0
IsInRow d m item w l j = AtSome (λ i. IsAnchorAt d m item l j i) w.left w.right

abbrev pub IsOnLevel : Design → Mesh → Item → Window → ℕ → ℕ → Type 0
IsOnLevel d m item w l = AtSome (λ j. IsInRow d m item w l j) w.bottom w.top

abbrev pub IsInWindow : Design → Mesh → Item → Window → ℕ → Type 0
IsInWindow d m item w = AtSome (λ l. IsOnLevel d m item w l) 0 (length m.layers)

-- the places of all lines between two numbers are from first to below last
pub record AreBetween (lines : List ℤ) (low high : ℤ) (first last : ℕ) : Type 0 where
  pub within : last ≤ length lines
  pub complete : (i : ℕ) → i < length lines → low ≤ℤ slice_index_or lines i (pos 0)
      → slice_index_or lines i (pos 0) ≤ℤ high → (first ≤ i) × (i < last)

-- all lines that cross a box
pub record IsWindowOf (m : Mesh) (r : Rect4) (w : Window) : Type 0 where
  pub columns : AreBetween m.xs r.x0 r.x1 w.left w.right
  pub rows : AreBetween m.ys r.y0 r.y1 w.bottom w.top

-- the places of a window are those of lines
pub record IsWindowIn (m : Mesh) (w : Window) : Type 0 where
  pub columns : w.right ≤ length m.xs
  pub rows : w.top ≤ length m.ys

abbrev pub box_between : Point → Point → Rect4
box_between a b = record { x0 = int_min a.x b.x; y0 = int_min a.y b.y; x1 = int_max a.x b.x; y1 = int_max a.y b.y }

-- a node in the box of two points that anchors the item
pub record IsAnchorIn (d : Design) (m : Mesh) (item : Item) (a b : Point) (v : ℕ) : Type 0 where
  pub node : v < node_count m
  pub is_in : IsIn (box_between a b) (point_of m v)
  pub anchors : Anchors d m v item

-- a point of a list, or the origin past its end
abbrev pub point_at : List Point → ℕ → Point
point_at ps k = slice_index_or ps k origin

-- a node in the box of a point of the list and the one before it
abbrev pub IsAnchorAlong : Design → Mesh → Item → List Point → ℕ → Type 0
IsAnchorAlong d m item ps = AtSome (λ k. IsAnchorIn d m item (point_at ps (k - 1)) (point_at ps k)) 0 (length ps)

-- the same numbers, ascending
pub record AreSorted (xs ys : List ℕ) : Type 0 where
  pub ascends : IsStrictlyIncreasing ys
  pub sound : (x : ℕ) → Contains ys x → Contains xs x
  pub complete : (x : ℕ) → Contains xs x → Contains ys x
