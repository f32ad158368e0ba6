use Rattle.std.proofs.Common.{◌≡◌, ℕ, None, Option, sym, subst}
use Rattle.route_plan.specs.Planners.{NetPlanOf}
use Rattle.route_plan.specs.Plans.{CanPlan, StandsAt, StatesOut}
use Rattle.route_plan.specs.inner.RouteOffers.{IsRouteOffer}
use Rattle.route_plan.specs.declared.way.Way.{Way}
use Rattle.route_plan.specs.declared.plans.FromIsland.TheVariants as from_island
use Rattle.route_plan.proofs.Leading.{stated_there}
use Rattle.route_plan.proofs.Planning.{stated_offer}
use Rattle.route_plan.proofs.plans.NetPlan.lead_stated.Goals as goal

pub returns-in-Route-clause-leads : goal.returns-in-Route-clause-leads
returns-in-Route-clause-leads g c =
    let s = c.self.inside in
    let island = c.args.island.now in
    let others = c.args.others.now in
    let offer = c.offer_of.result in
    let way : Way = record { rip = c.new.result; shoves = c.new-in-Route.result } in
    let own : island.net ≡ s.net = subst (λ (y : NetPlanOf). island.net ≡ y.net) (sym c.self.view_is) c.requires.net in
    let none : s.penalty ≡ None = subst (λ (y : NetPlanOf). y.penalty ≡ None) (sym c.self.view_is) c.requires.free in
    let can = subst (λ (q : Option ℕ). CanPlan s.d.now s.lat.now s.snap.now s.net s.via_cost q) none c.self.invariant.0
    in
    let route = stated_there s.d.now s.lat.now s.snap.now s.net s.via_cost s.worker s.penalty c.args.self.now island
    others c.search_from-task.result _ c.in-Route.route can.own none own c.self.view_is c.search_from-task.ensures
    c.in-Route.is c.in_ok-reach.ensures.finds in
    let is : IsRouteOffer s.snap.now.number s.worker s.net None c.in-Route.route way offer =
    subst (λ (q : Option ℕ). IsRouteOffer s.snap.now.number s.worker s.net q c.in-Route.route way offer)
    none
    (subst (λ (y : NetPlanOf). IsRouteOffer y.by.snap.number y.by.worker y.net y.penalty c.in-Route.route
    way offer) (sym c.self.view_is) c.offer_of.ensures) in
    subst (λ (y : NetPlanOf). StatesOut y.by island others (from_island.Offer offer)) c.self.view_is
    (λ b place of stands first. stated_offer s.d.now s.lat.now s.snap.now s.net s.via_cost b s.worker island others
    place c.in-Route.route way offer can of c.in_order.ensures.ascends c.self.invariant.1
    (subst (λ n. StandsAt b.design b.items n place island others) own stands) first route
    (c.new.ensures, c.new-in-Route.ensures) is c.least_offers_may_be_made.ensures own)
