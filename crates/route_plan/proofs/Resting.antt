-- The way to the nearest of boxes around the goals is a bound for the moves that pass routed items too.
use Rattle.std.proofs.Common.{ℕ, List, arith}
use Rattle.pcb_model.specs.declared.item.Item.{Item}
use Rattle.pcb_model.specs.declared.design.Design.{Design}
use Rattle.route_lattice.specs.Mesh.{Mesh}
use Rattle.route_lattice.specs.Legal.{legal_graph}
use Rattle.geo_kernel.specs.declared.point.Rect4.{Rect4}
use Rattle.wave_search.specs.Around.{low_at}
use Rattle.wave_search.specs.Bounds.{IsBound}
use Rattle.ripup.specs.Rips.{rip_graph}
use Rattle.least_offer.proofs.Resting.{unpriced, opens_fixed}

pub bounds : (d : Design) (m : Mesh) (items : List Item) (net via_cost penalty : ℕ) (goals : List ℕ)
    (boxes : List Rect4)
    → IsBound (legal_graph d m d.fixed net via_cost) goals (low_at m boxes)
    → IsBound (rip_graph d m items net via_cost penalty) goals (low_at m boxes)
bounds d m items net via_cost penalty goals boxes h = record {
  limit = h.limit;
  at_goals = h.at_goals;
  falls = λ node hop there opens.
      let f = h.falls node (unpriced d m items net via_cost penalty node hop) there
      (opens_fixed d m items net via_cost penalty node hop opens) in
      let p = opens.costs.price_is in
      omega (arith, f, p);
}
