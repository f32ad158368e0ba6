-- A snapshot of a board.
use Rattle.std.specs.Prelude.{◌≡◌, ℕ, ◌<◌, ◌≤◌, ◌^◌, List, length}
use Rattle.pcb_model.specs.declared.item.Item.{Item}
use Rattle.pcb_model.specs.declared.design.Design.{Design}
use Rattle.pcb_model.specs.Sound.{IsSound, Serves}
use Rattle.pcb_islands.specs.declared.net.Island.{Island}
use Rattle.pcb_islands.specs.Islands.{AreIslands}
use Rattle.route_lattice.specs.Mesh.{Mesh}
use Rattle.route_lattice.specs.Fits.{FitsDesign}
use Rattle.pcb_board.specs.Boards.{SnapOf}
use Rattle.closing_pass.specs.inner.Steps.{IsShutAt}

-- what it is: its design, a lattice, its items, and the price of a via in nm
pub record ClosedBoardOf : Type 0 where
  pub d : Design
  pub lat : Mesh
  pub items : List Item
  pub via_cost : ℕ

-- its items and design, as islands and cuts ask for them
pub record CanCut (d : Design) (m : Mesh) (via_cost : ℕ) (s : SnapOf) : Type 0 where
  pub sound : IsSound d
  pub fits : FitsDesign d m
  pub small_cost : via_cost ≤ 2 ^ 30
  pub own : s.design ≡ d
  pub serves : Serves s.items d

-- these are the islands of a net of the design, and no legal walk leads from one of them to another
pub record AreShut (on : ClosedBoardOf) (found : List Island) : Type 0 where
  pub net : ℕ
  pub net_there : net < length on.d.nets
  pub islands : AreIslands on.d on.items net found
  pub shut : (place : ℕ) → IsShutAt on.d on.lat on.via_cost on.items found place

-- the island is of a net of the design, and has a pin
pub record MayBeCut (d : Design) (island : Island) : Type 0 where
  pub net_there : island.net < length d.nets
  pub pins : 0 < length island.pins
