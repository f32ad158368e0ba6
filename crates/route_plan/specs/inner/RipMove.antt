-- One move of a net past routed items.
use Rattle.std.specs.Prelude.{ℕ, ◌<◌, List}
use Rattle.pcb_model.specs.declared.item.Item.{Item}
use Rattle.pcb_model.specs.declared.design.Design.{Design}
use Rattle.route_lattice.specs.Mesh.{Mesh, node_count}
use Rattle.route_lattice.specs.Ways.{way_count}
use Rattle.ripup.specs.Rips.{CanRip}

-- what it is: the move of an index at a node, for a net on some items; and the first net of the net's group
pub record RipMoveOf : Type 0 where
  pub d : Design
  pub lat : Mesh
  pub items : List Item
  pub net : ℕ
  pub first : ℕ
  pub via_cost : ℕ
  pub penalty : ℕ
  pub node : ℕ
  pub i : ℕ

-- a net may be searched past routed items, and has a move of the index at the node
pub record CanTell (d : Design) (m : Mesh) (net via_cost penalty node i : ℕ) : Type 0 where
  pub rip : CanRip d m net via_cost penalty
  pub node_there : node < node_count m
  pub index_there : i < way_count d m net
