-- The offers of routes, and what makes way for them.
use Rattle.std.specs.Prelude.{◌≡◌, ℕ, List, [], Option, Some, None}
use Rattle.pcb_model.specs.declared.item.Item.{Item}
use Rattle.pcb_model.specs.declared.item.Metal.{Metal}
use Rattle.pcb_model.specs.declared.design.Design.{Design}
use Rattle.route_lattice.specs.Mesh.{Mesh}
use Rattle.board_offers.specs.declared.offer.Offer.{Offer}
use Rattle.board_offers.specs.Items.{added_from}
use Rattle.route_plan.specs.declared.route.Route.{Route}
use Rattle.route_plan.specs.declared.way.Way.{Way}
use Rattle.route_plan.specs.inner.Ways.{MakesWayOn}
use Rattle.pcb_islands.specs.declared.net.Island.{Island}
use Rattle.route_lattice.specs.Ground.{ground_of}
use Rattle.route_plan.specs.Planners.{NetPlanOf}
use Rattle.route_plan.specs.Searches.{NetSearchOf}

-- what makes way for the metals of a net: nothing is taken out without a penalty
abbrev pub MakesWayFor : Design → Mesh → List Item → ℕ → Option ℕ → List Metal → Way → Type 0
MakesWayFor d m items net None metals way = (way.rip ≡ []) × (way.shoves ≡ [])
MakesWayFor d m items net (Some penalty) metals way = MakesWayOn d m items (added_from d net 0 metals) way

-- the offer of a route, and of what makes way for it
pub record IsRouteOffer (base worker net : ℕ) (penalty : Option ℕ) (route : Route) (way : Way) (o : Offer) :
    Type 0 where
  pub base_is : o.base ≡ base
  pub worker_is : o.worker ≡ worker
  pub net_is : o.net ≡ net
  pub penalty_is : o.penalty ≡ penalty
  pub from_is : o.from ≡ route.from
  pub to_is : o.to ≡ route.to
  pub add_is : o.add ≡ route.metals
  pub rip_is : o.rip ≡ way.rip
  pub shoves_is : o.shoves ≡ way.shoves

-- the search of a net's plan from an island to the others
abbrev pub search_of : NetPlanOf → Island → List Island → NetSearchOf
search_of p island others = record {
  on = ground_of p.by.snap.design p.by.lat p.by.snap.items;
  island = island;
  others = others;
  via_cost = p.by.via_cost;
  penalty = p.penalty;
}
