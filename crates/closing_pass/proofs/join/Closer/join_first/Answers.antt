use Rattle.std.proofs.Common.{◌<◌, length, subst, sym, None}
use Rattle.route_plan.specs.Plans.{IsOfferOf, StatesFrom}
use Rattle.closing_pass.proofs.Joining.{net_at}
use Rattle.closing_pass.proofs.Readiness.{ready_on}
use Rattle.closing_pass.proofs.Rejoining.{first_fewer, shut_first, stands_first, takes_first}
use Rattle.closing_pass.proofs.join.Closer.join_first.Goals as goal

pub remove-island-requires : goal.remove-island-requires
remove-island-requires c = c.requires.islands.place_there

pub stated_at-requires-clause-net : goal.stated_at-requires-clause-net
stated_at-requires-clause-net c =
    let b = c.args.board.now in
    subst (λ n. n < length b.design.nets)
    (sym (net_at b.design b.items c.args.net c.args.found 0 c.remove-island.result c.requires.islands.islands
    c.remove-island.ensures.value)) c.requires.islands.net_there

pub take-requires : goal.take-requires
take-requires c =
    let b = c.args.board.now in
    let m = c.args.self.now.lat.now in
    let cost = c.args.self.now.via_cost in
    let others = c.remove-island.new.self in
    let island = c.remove-island.result in
    let led = subst (StatesFrom m cost b 16 island others) c.in-Offer.is
    (c.in-Ok.ensures.leads 0 (stands_first b c.args.net c.args.found others island c.requires.islands.islands
    c.remove-island.ensures.value c.remove-island.ensures.rest)) in
    subst (λ n. IsOfferOf m cost b 16 n None c.in-Offer.offer) (sym led.offer.net_is) led.offer

pub returns-in-Shut-clause-joins : goal.returns-in-Shut-clause-joins
returns-in-Shut-clause-joins c =
    let b = c.args.board.now in
    let m = c.args.self.now.lat.now in
    let cost = c.args.self.now.via_cost in
    let others = c.remove-island.new.self in
    let island = c.remove-island.result in
    let led = subst (StatesFrom m cost b 16 island others) c.in-Shut.is
    (c.in-Ok.ensures.leads 0 (stands_first b c.args.net c.args.found others island c.requires.islands.islands
    c.remove-island.ensures.value c.remove-island.ensures.rest)) in
    shut_first m cost c.args.net b c.args.found others island c.in-Shut.reach.nodes c.islands_are_one.ensures
    c.keeps.ensures (c.boards_serve.ensures.serves b c.keeps.ensures) c.requires.islands.islands
    c.remove-island.ensures.value c.remove-island.ensures.rest led

pub returns-in-Ok-take-clause-joins : goal.returns-in-Ok-take-clause-joins
returns-in-Ok-take-clause-joins c =
    let b = c.args.board.now in
    let m = c.args.self.now.lat.now in
    let cost = c.args.self.now.via_cost in
    let others = c.remove-island.new.self in
    let island = c.remove-island.result in
    let led = subst (StatesFrom m cost b 16 island others) c.in-Offer.is
    (c.in-Ok.ensures.leads 0 (stands_first b c.args.net c.args.found others island c.requires.islands.islands
    c.remove-island.ensures.value c.remove-island.ensures.rest)) in
    takes_first m cost c.args.net b c.take.new.board c.in-Offer.offer c.args.found others island c.keeps.ensures
    c.requires.islands.islands c.remove-island.ensures.value c.remove-island.ensures.rest led
    c.in-Ok-take.ensures.ok

pub returns-in-Ok-take-clause-fewer : goal.returns-in-Ok-take-clause-fewer
returns-in-Ok-take-clause-fewer c = λ t.
    let b = c.args.board.now in
    let m = c.args.self.now.lat.now in
    let cost = c.args.self.now.via_cost in
    let others = c.remove-island.new.self in
    let island = c.remove-island.result in
    let led = subst (StatesFrom m cost b 16 island others) c.in-Offer.is
    (c.in-Ok.ensures.leads 0 (stands_first b c.args.net c.args.found others island c.requires.islands.islands
    c.remove-island.ensures.value c.remove-island.ensures.rest)) in
    first_fewer m cost c.args.net b c.take.new.board c.in-Offer.offer c.args.found others island c.keeps.ensures
    c.requires.islands.islands c.remove-island.ensures.value c.remove-island.ensures.rest led
    c.in-Ok-take.ensures.ok c.joining_falls.ensures.fewer c.islands_are_one.ensures
    (c.boards_serve.ensures.serves b c.keeps.ensures) (c.boards_serve.ensures.ascends b c.keeps.ensures)

pub returns-in-Ok-take-clause-ready : goal.returns-in-Ok-take-clause-ready
returns-in-Ok-take-clause-ready c =
    let b = c.args.board.now in
    let m = c.args.self.now.lat.now in
    let cost = c.args.self.now.via_cost in
    let others = c.remove-island.new.self in
    let island = c.remove-island.result in
    let led = subst (StatesFrom m cost b 16 island others) c.in-Offer.is
    (c.in-Ok.ensures.leads 0 (stands_first b c.args.net c.args.found others island c.requires.islands.islands
    c.remove-island.ensures.value c.remove-island.ensures.rest)) in
    let first = takes_first m cost c.args.net b c.take.new.board c.in-Offer.offer c.args.found others island
    c.keeps.ensures c.requires.islands.islands c.remove-island.ensures.value c.remove-island.ensures.rest led
    c.in-Ok-take.ensures.ok in
    ready_on m cost b c.take.new.board c.stated_at.new.state first.joins.closes c.in-Ok.ensures.ready
