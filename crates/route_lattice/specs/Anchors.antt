-- Which nodes anchor an item.
use Rattle.std.specs.Prelude.{◌≡◌, ℕ, ◌<◌, List, Any, Contains, slice_get, ◌↔◌}
use Rattle.std.specs.Option.{IsSomeAnd}
use Rattle.std.specs.List.Sorted.{IsStrictlyIncreasing}
use Rattle.geo_kernel.specs.declared.point.Point.{Point}
use Rattle.geo_kernel.specs.declared.spine.Spine.TheVariants.{Chain}
use Rattle.geo_kernel.specs.Spine.{IsOnSpine}
use Rattle.pcb_model.specs.declared.item.Piece.{Piece}
use Rattle.pcb_model.specs.declared.item.Metal.{Metal}
use Rattle.pcb_model.specs.declared.item.Metal.TheVariants.{Wire, Via, Pad, Ban}
use Rattle.pcb_model.specs.declared.item.Item.{Item}
use Rattle.pcb_model.specs.declared.design.Pin.{Pin}
use Rattle.pcb_model.specs.declared.design.Design.{Design}
use Rattle.pcb_model.specs.Scale.{scale_of}
use Rattle.pcb_model.specs.Sound.{Covers}
use Rattle.route_lattice.specs.Round.{nearest}
use Rattle.route_lattice.specs.Mesh.{Mesh, node_count, point_of, layer_of}

-- the point with each coordinate rounded to the nearest multiple of the unit, half upwards
abbrev pub rounded : ℕ → Point → Point
rounded unit p = record { x = nearest unit p.x; y = nearest unit p.y }

-- the piece lies on the layer, and the point in its copper
pub record Holds (layer : ℕ) (p : Point) (q : Piece) : Type 0 where
  pub on_layer : q.layer ≡ layer
  pub covers : Covers p q

-- a wire is anchored on its spine, a via at its centre, a pad at its pin's centre, rounded to the unit of the session;
-- a ban nowhere
abbrev pub IsAnchorOf : Design → Metal → Point → Type 0
IsAnchorOf d (Wire layer width chain) p = IsOnSpine p (Chain chain)
IsAnchorOf d (Via padstack at) p = at ≡ p
IsAnchorOf d (Pad pin) p = IsSomeAnd (slice_get d.pins pin) (λ (q : Pin). rounded (scale_of d).nm q.centre ≡ p)
IsAnchorOf d (Ban wires vias) p = ⊥

-- a node anchors an item where its point lies in the item's copper on the node's layer, and is an anchor of the item's
-- metal
pub record Anchors (d : Design) (m : Mesh) (node : ℕ) (item : Item) : Type 0 where
  pub in_copper : Any (Holds (layer_of m node) (point_of m node)) item.pieces
  pub is_anchor : IsAnchorOf d item.metal (point_of m node)

-- the nodes that anchor the item, ascending
pub record AreAnchorsOf (d : Design) (m : Mesh) (item : Item) (nodes : List ℕ) : Type 0 where
  pub ascends : IsStrictlyIncreasing nodes
  pub exact : (node : ℕ) → Contains nodes node ↔ ((node < node_count m) × Anchors d m node item)

-- the node anchors some item with one of the ids
pub record AnchorsAmong (d : Design) (m : Mesh) (items : List Item) (ids : List ℕ) (node : ℕ) : Type 0 where
  pub item : Item
  pub there : Contains items item
  pub asked : Contains ids item.id
  pub anchors : Anchors d m node item

-- the nodes that do, ascending
pub record AreAnchorsAmong (d : Design) (m : Mesh) (items : List Item) (ids nodes : List ℕ) : Type 0 where
  pub ascends : IsStrictlyIncreasing nodes
  pub exact : (node : ℕ) → Contains nodes node ↔ ((node < node_count m) × AnchorsAmong d m items ids node)
