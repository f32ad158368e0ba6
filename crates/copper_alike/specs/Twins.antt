-- Copper that is the same up to ids, the direction of chains, and whether it is fixed.
use Rattle.std.specs.Prelude.{◌≡◌, ◌⊎◌, ◌<◌, ℕ, true, List, [], ◌∷◌, reverse, length, All, Contains, None}
use Rattle.geo_kernel.specs.declared.point.Point.{Point}
use Rattle.geo_kernel.specs.Spine.{closed}
use Rattle.pcb_model.specs.declared.item.Metal.TheVariants.{Wire, Ban}
use Rattle.pcb_model.specs.declared.item.Item.{Item}
use Rattle.pcb_model.specs.declared.design.Design.{Design}
use Rattle.pcb_model.specs.Pieces.{wire_piece}
use Rattle.pcb_model.specs.Board.{IsRouted}

-- two wires, the one from its other end
pub record AreTurned (a b : Item) : Type 0 where
  pub layer : ℕ
  pub width : ℕ
  pub chain : List Point
  pub a_metal : a.metal ≡ Wire layer width chain
  pub b_metal : b.metal ≡ Wire layer width (reverse chain)
  pub a_pieces : a.pieces ≡ wire_piece layer width chain ∷ []
  pub b_pieces : b.pieces ≡ wire_piece layer width (reverse chain) ∷ []

-- two items of one net and kind with one copper
pub record AreTwins (a b : Item) : Type 0 where
  pub net_is : a.net ≡ b.net
  pub kind_is : a.kind ≡ b.kind
  pub copper : ((a.metal ≡ b.metal) × (a.pieces ≡ b.pieces)) ⊎ AreTurned a b

-- an item of the list has the copper of a
pub record HasTwin (items : List Item) (a : Item) : Type 0 where
  pub item : Item
  pub there : Contains items item
  pub twins : AreTwins a item

-- a routed item of the list has the copper of a
pub record HasRoutedTwin (items : List Item) (a : Item) : Type 0 where
  pub item : Item
  pub there : Contains items item
  pub routed : IsRouted item
  pub twins : AreTwins a item

-- each item of one list has a twin in the other
pub record ShowSame (xs ys : List Item) : Type 0 where
  pub to : (a : Item) → Contains xs a → HasTwin ys a
  pub from : (b : Item) → Contains ys b → HasTwin xs b

-- ---- edges
-- the item bans wires and vias from the edges of the loops, on each of the layers
pub record IsEdge (layers : ℕ) (loops : List (List Point)) (e : Item) : Type 0 where
  pub no_net : e.net ≡ None
  pub bans : e.metal ≡ Ban true true
  pub edges : (layer : ℕ) → layer < layers
      → All (λ loop. (width : ℕ) × Contains e.pieces (wire_piece layer width (closed loop))) loops

-- each boundary has its edge among the fixed items
pub record HasEdges (d : Design) : Type 0 where
  pub each : All (λ loops. (e : Item) × Contains d.fixed e × IsEdge (length d.layers) loops e) d.bounds
