use Rattle.std.proofs.Common.{◌∙◌, ◌<◌, ◌≤◌, ap, subst, sym, refl, length, List, None}
use Rattle.std.specs.List.{insert}
use Rattle.pcb_islands.specs.declared.net.Island.{Island}
use Rattle.pcb_board.specs.Boards.{BoardOf}
use Rattle.route_plan.specs.Plans.{LeadsFrom, IsOfferOf}
use Rattle.closing_pass.specs.inner.Steps.{HasFewer}
use Rattle.closing_pass.proofs.Places.{place_within, put_again}
use Rattle.closing_pass.proofs.Joining.{net_at, led_on, shut_at, fewer_join, joins_net}
use Rattle.closing_pass.proofs.Closings.{net_none}
use Rattle.closing_pass.proofs.Readiness.{ready_on}
use Rattle.closing_pass.proofs.join.Closer.join_at.Goals as goal

pub led_at-requires-clause-net : goal.led_at-requires-clause-net
led_at-requires-clause-net c =
    let b = c.args.board.now in
    subst (λ n. n < length b.design.nets)
    (sym (net_at b.design b.items c.args.net c.args.found c.args.place c.remove-island.result c.requires.at.islands
    c.remove-island.ensures.value)) c.requires.at.net_there

pub take-requires : goal.take-requires
take-requires c =
    let b = c.args.board.now in
    let m = c.args.self.now.lat.now in
    let cost = c.args.self.now.via_cost in
    let found = c.args.found in
    let others = c.remove-island.new.self in
    let island = c.remove-island.result in
    let led = subst (LeadsFrom m cost b 16 None island others) c.in-Offer.is
    (led_on b m cost c.args.net c.args.place found others island c.in-Ok.led c.requires.at.islands
    c.remove-island.ensures.value c.remove-island.ensures.rest c.in-Ok.ensures.leads) in
    subst (λ n. IsOfferOf m cost b 16 n None c.in-Offer.offer) (sym led.0.net_is) led.0

pub returns-in-Shut-clause-found : goal.returns-in-Shut-clause-found
returns-in-Shut-clause-found c =
    c.in-Ok-put_back.ensures ∙ ap (λ (xs : List Island). insert xs c.args.place c.remove-island.result)
    c.remove-island.ensures.rest
    ∙ put_again c.args.found c.args.place c.remove-island.result c.remove-island.ensures.value

pub returns-in-Shut-clause-tries : goal.returns-in-Shut-clause-tries
returns-in-Shut-clause-tries c =
    let b = c.args.board.now in
    let m = c.args.self.now.lat.now in
    let cost = c.args.self.now.via_cost in
    let found = c.args.found in
    let others = c.remove-island.new.self in
    let island = c.remove-island.result in
    let led = subst (LeadsFrom m cost b 16 None island others) c.in-Shut.is
    (led_on b m cost c.args.net c.args.place found others island c.in-Ok.led c.requires.at.islands
    c.remove-island.ensures.value c.remove-island.ensures.rest c.in-Ok.ensures.leads) in (
      shut_at b m cost c.args.place found others island c.in-Shut.reach.nodes c.remove-island.ensures.value
          c.remove-island.ensures.rest led,
      refl,
    )

pub returns-in-Shut-clause-joins : goal.returns-in-Shut-clause-joins
returns-in-Shut-clause-joins c = net_none c.args.self.now.lat.now c.args.self.now.via_cost c.args.net c.args.board.now

pub returns-in-Ok-take-clause-found : goal.returns-in-Ok-take-clause-found
returns-in-Ok-take-clause-found c =
    c.in-Ok-put_back.ensures ∙ ap (λ (xs : List Island). insert xs c.args.place c.remove-island.result)
    c.remove-island.ensures.rest
    ∙ put_again c.args.found c.args.place c.remove-island.result c.remove-island.ensures.value

pub returns-in-Ok-take-clause-fewer : goal.returns-in-Ok-take-clause-fewer
returns-in-Ok-take-clause-fewer c = λ t.
    let b = c.args.board.now in
    let m = c.args.self.now.lat.now in
    let cost = c.args.self.now.via_cost in
    let found = c.args.found in
    let others = c.remove-island.new.self in
    let island = c.remove-island.result in
    let led = subst (LeadsFrom m cost b 16 None island others) c.in-Offer.is
    (led_on b m cost c.args.net c.args.place found others island c.in-Ok.led c.requires.at.islands
    c.remove-island.ensures.value c.remove-island.ensures.rest c.in-Ok.ensures.leads) in
    let net_is = net_at b.design b.items c.args.net found c.args.place island c.requires.at.islands
    c.remove-island.ensures.value in
    let of : IsOfferOf m cost b 16 c.args.net None c.in-Offer.offer = subst
    (λ n. IsOfferOf m cost b 16 n None c.in-Offer.offer) net_is led.0 in
    subst (λ (x : BoardOf). HasFewer c.args.net x found) (sym c.in-Ok-take.ensures.ok)
    (fewer_join m cost b c.in-Offer.offer c.args.net found c.joining_falls.ensures.fewer c.islands_are_one.ensures
    c.keeps.ensures
    (c.boards_serve.ensures.serves b c.keeps.ensures) (c.boards_serve.ensures.ascends b c.keeps.ensures)
    c.requires.at.islands of (led.1 refl))

pub returns-in-Ok-take-clause-joins : goal.returns-in-Ok-take-clause-joins
returns-in-Ok-take-clause-joins c =
    let b = c.args.board.now in
    let m = c.args.self.now.lat.now in
    let cost = c.args.self.now.via_cost in
    let found = c.args.found in
    let others = c.remove-island.new.self in
    let island = c.remove-island.result in
    let led = subst (LeadsFrom m cost b 16 None island others) c.in-Offer.is
    (led_on b m cost c.args.net c.args.place found others island c.in-Ok.led c.requires.at.islands
    c.remove-island.ensures.value c.remove-island.ensures.rest c.in-Ok.ensures.leads) in
    let net_is = net_at b.design b.items c.args.net found c.args.place island c.requires.at.islands
    c.remove-island.ensures.value in
    let of : IsOfferOf m cost b 16 c.args.net None c.in-Offer.offer = subst
    (λ n. IsOfferOf m cost b 16 n None c.in-Offer.offer) net_is led.0 in
    joins_net m cost b c.take.new.board c.in-Offer.offer c.args.net c.keeps.ensures of (led.1 refl)
    c.in-Ok-take.ensures.ok

pub returns-in-Ok-take-clause-ready : goal.returns-in-Ok-take-clause-ready
returns-in-Ok-take-clause-ready c =
    let b = c.args.board.now in
    let m = c.args.self.now.lat.now in
    let cost = c.args.self.now.via_cost in
    let found = c.args.found in
    let others = c.remove-island.new.self in
    let island = c.remove-island.result in
    let led = subst (LeadsFrom m cost b 16 None island others) c.in-Offer.is
    (led_on b m cost c.args.net c.args.place found others island c.in-Ok.led c.requires.at.islands
    c.remove-island.ensures.value c.remove-island.ensures.rest c.in-Ok.ensures.leads) in
    let net_is = net_at b.design b.items c.args.net found c.args.place island c.requires.at.islands
    c.remove-island.ensures.value in
    let of : IsOfferOf m cost b 16 c.args.net None c.in-Offer.offer = subst
    (λ n. IsOfferOf m cost b 16 n None c.in-Offer.offer) net_is led.0 in
    let joins = joins_net m cost b c.take.new.board c.in-Offer.offer c.args.net c.keeps.ensures of (led.1 refl)
    c.in-Ok-take.ensures.ok in
    ready_on m cost b c.take.new.board c.led_at.new.state joins.closes c.in-Ok.ensures.ready

pub put_back-requires : goal.put_back-requires
put_back-requires c =
    subst (λ (os : List Island). c.args.place ≤ length os) (sym c.remove-island.ensures.rest)
    (place_within c.args.found c.args.place c.requires.at.place_there)
