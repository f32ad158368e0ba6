-- Where an island leads by moves at 45 degrees beside the legal ones.
use Rattle.std.specs.Prelude.{◌≡◌, ℕ, List, length, Option, Some, None}
use Rattle.pcb_model.specs.declared.item.Item.{Item}
use Rattle.pcb_model.specs.declared.design.Design.{Design}
use Rattle.pcb_islands.specs.declared.net.Island.{Island}
use Rattle.route_lattice.specs.Mesh.{Mesh}
use Rattle.route_lattice.specs.Walks.{Hop, Leads}
use Rattle.path_wire.specs.Diagonals.{wide_graph}
use Rattle.cut_certificate.specs.Cuts.{IsStart, IsGoal}
use Rattle.board_offers.specs.declared.offer.Offer.{Offer}
use Rattle.board_offers.specs.declared.offer.TheConstants.{CLOSER}
use Rattle.pcb_board.specs.Boards.{BoardOf}
use Rattle.least_offer.specs.Least.{JoinsOver, TakesNothing}

-- moves of the net, diagonals among them, lead from the island to one of the others
pub record LeadsWide (d : Design) (m : Mesh) (items : List Item) (via_cost : ℕ) (island : Island)
    (others : List Island) : Type 0 where
  pub from : ℕ
  pub hops : List Hop
  pub to : ℕ
  pub starts : IsStart d m items island from
  pub ends : IsGoal d m items others to
  pub leads : Leads (wide_graph d m items island.net via_cost) from hops to

-- The offer is one of the closing pass that rests on the board as it is and takes nothing out. It adds the copper of a
-- least walk over such moves from the island to one of the others.
pub record IsWideJoin (m : Mesh) (via_cost : ℕ) (b : BoardOf) (island : Island) (others : List Island) (o : Offer) :
    Type 0 where
  pub base_is : o.base ≡ length b.history
  pub worker_is : o.worker ≡ CLOSER
  pub net_is : o.net ≡ island.net
  pub penalty_is : o.penalty ≡ None
  pub takes : TakesNothing o
  pub joins : JoinsOver (wide_graph b.design m b.items o.net via_cost) m b o island others

-- such an offer, or no walk leads so
abbrev pub LeadsFrom : Mesh → ℕ → BoardOf → Island → List Island → Option Offer → Type 0
LeadsFrom m via_cost b island others (Some o) = IsWideJoin m via_cost b island others o
LeadsFrom m via_cost b island others None = ¬ (LeadsWide b.design m b.items via_cost island others)
