use Rattle.std.proofs.Common.{◌≡◌, ℕ, sym, subst, All}
use Rattle.pcb_model.specs.declared.design.Design.{Design}
use Rattle.path_wire.specs.Lays.{IsWellLaid}
use Rattle.route_plan.specs.Planners.{NetPlanOf}
use Rattle.route_plan.specs.Plans.{CanPlan, LeadsOut}
use Rattle.route_plan.specs.Routes.{IsRoute}
use Rattle.route_plan.specs.inner.RouteOffers.{MakesWayFor, IsRouteOffer}
use Rattle.route_plan.specs.declared.plans.FromIsland.TheVariants as from_island
use Rattle.route_plan.proofs.Leading.{found_there}
use Rattle.route_plan.proofs.Clearing.{well_laid, route_offer}
use Rattle.route_plan.proofs.plans.NetPlan.lead.Goals as goal

pub way_for-requires : goal.way_for-requires
way_for-requires g c =
    let s = c.self.inside in
    let island = c.args.island.now in
    let others = c.args.others.now in
    let can = c.self.invariant.0 in
    let own : island.net ≡ s.net = subst (λ (y : NetPlanOf). island.net ≡ y.net) (sym c.self.view_is) c.requires.net in
    let route : IsRoute s.d.now s.lat.now s.snap.now.items s.net s.via_cost s.penalty island others c.in-Route.route =
    subst (λ n. IsRoute s.d.now s.lat.now s.snap.now.items n s.via_cost s.penalty island others c.in-Route.route) own
    (found_there s.d.now s.lat.now s.snap.now s.net s.via_cost s.worker s.penalty c.args.self.now island others
    c.search_from-task.result _ c.in-Route.route can.own c.self.view_is c.search_from-task.ensures
    c.in-Route.is c.in_ok-reach.ensures.finds) in
    let well = well_laid s.d.now s.lat.now s.snap.now.items s.net s.via_cost s.penalty island others c.in-Route.route
    can.sound can.fits can.net_there c.copper_well_laid.ensures route in
    subst (λ (y : NetPlanOf). All (IsWellLaid y.by.snap.design y.net 0) c.in-Route.route.metals) c.self.view_is
    (subst (λ (d : Design). All (IsWellLaid d s.net 0) c.in-Route.route.metals) (sym can.own) well)

pub returns-in-Ok-clause-leads : goal.returns-in-Ok-clause-leads
returns-in-Ok-clause-leads g c =
    let s = c.self.inside in
    let island = c.args.island.now in
    let others = c.args.others.now in
    let metals = c.in-Route.route.metals in
    let way = c.in-Ok.way in
    let offer = c.offer_of.result in
    let own : island.net ≡ s.net = subst (λ (y : NetPlanOf). island.net ≡ y.net) (sym c.self.view_is) c.requires.net in
    let can = subst (λ n. CanPlan s.d.now s.lat.now s.snap.now n s.via_cost s.penalty) (sym own) c.self.invariant.0 in
    let route : IsRoute s.d.now s.lat.now s.snap.now.items island.net s.via_cost s.penalty island others
    c.in-Route.route = found_there s.d.now s.lat.now s.snap.now s.net s.via_cost s.worker s.penalty c.args.self.now
    island others c.search_from-task.result _ c.in-Route.route can.own c.self.view_is
    c.search_from-task.ensures c.in-Route.is c.in_ok-reach.ensures.finds in
    let makes : MakesWayFor s.d.now s.lat.now s.snap.now.items island.net s.penalty metals way =
    subst (λ (p : Design × ℕ). MakesWayFor p.0 s.lat.now s.snap.now.items p.1 s.penalty metals way)
    (λ i. (can.own i, sym own i))
    (subst (λ (y : NetPlanOf). MakesWayFor y.by.snap.design y.by.lat y.by.snap.items y.net y.penalty metals way)
    (sym c.self.view_is) c.in-Ok.ensures) in
    let is : IsRouteOffer s.snap.now.number s.worker island.net s.penalty c.in-Route.route way offer =
    subst (λ n. IsRouteOffer s.snap.now.number s.worker n s.penalty c.in-Route.route way offer) (sym own)
    (subst (λ (y : NetPlanOf). IsRouteOffer y.by.snap.number y.by.worker y.net y.penalty c.in-Route.route way offer)
    (sym c.self.view_is) c.offer_of.ensures) in
    subst (λ (y : NetPlanOf). LeadsOut y.by y.penalty island others (from_island.Offer offer)) c.self.view_is
    (λ b place of stands first. route_offer s.d.now s.lat.now s.snap.now island.net s.via_cost b s.worker s.penalty
    island others place c.in-Route.route way offer can of c.in_order.ensures.ascends c.self.invariant.1 stands first
    route makes is c.least_offers_may_be_made.ensures c.shoves_may_be_made.ensures
    c.made_shoves_stand_together.ensures c.shoves_are_one.ensures.in_way c.shoves_are_one.ensures.alike)
