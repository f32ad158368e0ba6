use Rattle.std.proofs.Common.{◌∙◌, ◌<◌, ◌≤◌, ap, subst, sym, refl, length, List}
use Rattle.std.specs.List.{insert}
use Rattle.pcb_islands.specs.declared.net.Island.{Island}
use Rattle.closing_pass.proofs.Places.{place_within, put_again}
use Rattle.closing_pass.proofs.Joining.{net_at}
use Rattle.wide_offer.specs.Leading.{IsWideJoin, LeadsFrom}
use Rattle.wide_pass.proofs.Joining.{can_join, is_joined, wide_shut_at}
use Rattle.wide_pass.proofs.join.WideCloser.join_at.Goals as goal

pub offer_from-requires : goal.offer_from-requires
offer_from-requires c =
    let b = c.args.board.now in
    record {
      sound = c.keeps.ensures.sound;
      fits = c.requires.can.fits;
      net_there = subst (λ n. n < length b.design.nets) (sym (net_at b.design b.items c.args.net c.args.found
          c.args.place c.remove-island.result c.requires.at.islands c.remove-island.ensures.value))
          c.requires.at.net_there;
      small_cost = c.requires.can.small_cost;
    }

pub put_back-requires : goal.put_back-requires
put_back-requires c =
    subst (λ (os : List Island). c.args.place ≤ length os) (sym c.remove-island.ensures.rest)
    (place_within c.args.found c.args.place c.requires.at.place_there)

pub take-requires-clause-may : goal.take-requires-clause-may
take-requires-clause-may c =
    let b = c.args.board.now in
    let m = c.args.self.now.lat.now in
    let cost = c.args.self.now.via_cost in
    let others = c.remove-island.new.self in
    let island = c.remove-island.result in
    let j : IsWideJoin m cost b island others c.in-Some.offer =
    subst (LeadsFrom m cost b island others) c.in-Some.is c.in-Ok.ensures in
    (can_join m cost c.args.net c.args.place b c.in-Some.offer c.args.found others island
    c.wide_offers_may_be_made.ensures c.keeps.ensures c.requires.can c.requires.at.net_there c.requires.closed
    c.requires.at.islands c.remove-island.ensures.value c.remove-island.ensures.rest j).may

pub take-requires-clause-worker : goal.take-requires-clause-worker
take-requires-clause-worker c =
    let j : IsWideJoin c.args.self.now.lat.now c.args.self.now.via_cost c.args.board.now c.remove-island.result
    c.remove-island.new.self c.in-Some.offer = subst (LeadsFrom c.args.self.now.lat.now c.args.self.now.via_cost
    c.args.board.now c.remove-island.result c.remove-island.new.self) c.in-Some.is c.in-Ok.ensures in
    j.worker_is

pub returns-in-None-clause-found : goal.returns-in-None-clause-found
returns-in-None-clause-found c =
    c.in-Ok-put_back.ensures ∙ ap (λ (xs : List Island). insert xs c.args.place c.remove-island.result)
    c.remove-island.ensures.rest
    ∙ put_again c.args.found c.args.place c.remove-island.result c.remove-island.ensures.value

pub returns-in-None-clause-tries : goal.returns-in-None-clause-tries
returns-in-None-clause-tries c =
    let b = c.args.board.now in
    let m = c.args.self.now.lat.now in
    let cost = c.args.self.now.via_cost in
    let others = c.remove-island.new.self in
    let island = c.remove-island.result in (
      wide_shut_at m cost c.args.place b c.args.found others island c.remove-island.ensures.value
          c.remove-island.ensures.rest (subst (LeadsFrom m cost b island others) c.in-None.is c.in-Ok.ensures),
      refl,
    )

pub returns-in-Ok-take-clause-found : goal.returns-in-Ok-take-clause-found
returns-in-Ok-take-clause-found c =
    c.in-Ok-put_back.ensures ∙ ap (λ (xs : List Island). insert xs c.args.place c.remove-island.result)
    c.remove-island.ensures.rest
    ∙ put_again c.args.found c.args.place c.remove-island.result c.remove-island.ensures.value

pub returns-in-Ok-take-clause-tries : goal.returns-in-Ok-take-clause-tries
returns-in-Ok-take-clause-tries c =
    let b = c.args.board.now in
    let m = c.args.self.now.lat.now in
    let cost = c.args.self.now.via_cost in
    let others = c.remove-island.new.self in
    let island = c.remove-island.result in
    let j : IsWideJoin m cost b island others c.in-Some.offer =
    subst (LeadsFrom m cost b island others) c.in-Some.is c.in-Ok.ensures in
    is_joined m cost c.args.net b c.take.new.board c.in-Some.offer
    (can_join m cost c.args.net c.args.place b c.in-Some.offer c.args.found others island
    c.wide_offers_may_be_made.ensures c.keeps.ensures c.requires.can c.requires.at.net_there c.requires.closed
    c.requires.at.islands c.remove-island.ensures.value c.remove-island.ensures.rest j)
    c.in-Ok-take.ensures.ok
