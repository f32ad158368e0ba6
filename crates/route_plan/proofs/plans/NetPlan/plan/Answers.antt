use Rattle.std.proofs.Common.{◌≡◌, ◌<◌, length, sym, subst, arith}
use Rattle.pcb_islands.specs.Islands.{AreIslands}
use Rattle.route_plan.specs.Planners.{NetPlanOf}
use Rattle.route_plan.specs.Plans.{PlansNet, LeadsOut, LeadsFrom, IsOfferOf}
use Rattle.route_plan.specs.declared.plans.Planned.TheVariants as planned
use Rattle.route_plan.proofs.Planning.{on_board, first_net, first_leads, some_left, shut_first, split, whole}
use Rattle.route_plan.proofs.plans.NetPlan.plan.Goals as goal

pub islands-requires-clause-sound : goal.islands-requires-clause-sound
islands-requires-clause-sound g c = c.self.invariant.0.sound

pub islands-requires-clause-net : goal.islands-requires-clause-net
islands-requires-clause-net g c = c.self.invariant.0.net_there

pub islands-requires-clause-serves : goal.islands-requires-clause-serves
islands-requires-clause-serves g c = (c.self.invariant.0.own, c.self.invariant.0.serves)

pub returns-then-len-le1-clause-plan : goal.returns-then-len-le1-clause-plan
returns-then-len-le1-clause-plan g c =
    let s = c.self.inside in
    subst (λ (y : NetPlanOf). PlansNet y.by y.net y.penalty planned.Whole) c.self.view_is
    (λ b of. whole s.d.now s.lat.now s.snap.now s.net s.via_cost b s.penalty c.in_ok-others.others c.self.invariant.0 of
    c.in_ok-others.ensures (let few = c.if-len-le1.true in let count = c.len.ensures in omega (arith, few, count)))

pub remove-island-requires : goal.remove-island-requires
remove-island-requires g c =
    let many = c.if-len-le1.false in
    let count = c.len.ensures in
    omega (arith, many, count)

-- the first island is one of the net
pub lead-led-requires-clause-net : goal.lead-led-requires-clause-net
lead-led-requires-clause-net g c =
    let s = c.self.inside in
    subst (λ (y : NetPlanOf). c.remove-island.result.net ≡ y.net) c.self.view_is
    (first_net s.d.now s.snap.now.items s.net c.in_ok-others.others c.remove-island.new.self c.remove-island.result
    c.in_ok-others.ensures c.remove-island.ensures.value c.remove-island.ensures.rest)

-- no walk leads from the first island, on each board of the snapshot
pub returns-in-Ok-Shut-clause-plan : goal.returns-in-Ok-Shut-clause-plan
returns-in-Ok-Shut-clause-plan g c =
    let s = c.self.inside in
    let can = c.self.invariant.0 in
    let found = c.in_ok-others.others in
    let island = c.remove-island.result in
    let others = c.remove-island.new.self in
    let first = c.remove-island.ensures.value in
    let rest = c.remove-island.ensures.rest in
    let led = subst (λ (y : NetPlanOf). LeadsOut y.by y.penalty island others c.in-Ok-Shut.field-0) (sym c.self.view_is)
    c.in-Ok-Shut.ensures.leads in
    subst (λ (y : NetPlanOf). PlansNet y.by y.net y.penalty (planned.Shut c.in-Ok-Shut.reach)) c.self.view_is
    (λ b of.
    let leads = first_leads s.d.now s.lat.now s.snap.now s.net s.via_cost b s.worker s.penalty found others island
    c.in-Ok-Shut.field-0 can of c.in_ok-others.ensures first rest (λ place. led b place of) in
    let shut = subst (LeadsFrom s.lat.now s.via_cost b s.worker s.penalty island others) c.in-Ok-Shut.field-0-is leads.1
    in
    let several : 1 < length found = omega (arith, c.if-len-le1.false, c.len.ensures) in
    shut_first b.design s.lat.now b.items s.net s.via_cost s.penalty found others island c.in-Ok-Shut.reach.nodes
    (on_board s.d.now s.lat.now s.snap.now s.net s.via_cost b (λ d xs. AreIslands d xs s.net found) can.own of
    c.in_ok-others.ensures) first rest (some_left found others island first rest several) leads.0 shut)

-- the first island's offer, on each board of the snapshot
pub returns-in-Ok-Offer-clause-plan : goal.returns-in-Ok-Offer-clause-plan
returns-in-Ok-Offer-clause-plan g c =
    let s = c.self.inside in
    let can = c.self.invariant.0 in
    let found = c.in_ok-others.others in
    let island = c.remove-island.result in
    let others = c.remove-island.new.self in
    let first = c.remove-island.ensures.value in
    let rest = c.remove-island.ensures.rest in
    let led = subst (λ (y : NetPlanOf). LeadsOut y.by y.penalty island others c.in-Ok-Offer.field-0)
    (sym c.self.view_is) c.in-Ok-Offer.ensures.leads in
    subst (λ (y : NetPlanOf). PlansNet y.by y.net y.penalty (planned.Offer c.in-Ok-Offer.offer)) c.self.view_is
    (λ b of.
    let leads = first_leads s.d.now s.lat.now s.snap.now s.net s.via_cost b s.worker s.penalty found others island
    c.in-Ok-Offer.field-0 can of c.in_ok-others.ensures first rest (λ place. led b place of) in
    let offer = subst (LeadsFrom s.lat.now s.via_cost b s.worker s.penalty island others) c.in-Ok-Offer.field-0-is
    leads.1 in
    record {
      offer = subst (λ n. IsOfferOf s.lat.now s.via_cost b s.worker n s.penalty c.in-Ok-Offer.offer) leads.0 offer.0;
      first = island;
      others = others;
      islands = split b.design b.items s.net found others island
          (on_board s.d.now s.lat.now s.snap.now s.net s.via_cost b (λ d xs. AreIslands d xs s.net found) can.own of
          c.in_ok-others.ensures) first rest;
      joins = offer.2;
      takes = offer.1;
    })
