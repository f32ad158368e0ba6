use Rattle.std.proofs.Common.{ℕ, List, None, Option, refl, subst}
use Rattle.std.proofs.lemmas.Result.{IfOk-weaker}
use Rattle.pcb_board.specs.Keeping.{IsBoard}
use Rattle.board_offers.specs.declared.offer.Shoved.{Shoved}
use Rattle.route_plan.specs.declared.route.Route.{Route}
use Rattle.closing_pass.specs.Settled.{TakesOut}
use Rattle.closing_pass.specs.inner.Tries.{AnswersBy, AnswersTrial, FindsRoute, IsPastOffer, IsPastTrial, IsShutIsland}
use Rattle.closing_pass.specs.inner.Tries.{ShutIslandOf}
use Rattle.closing_pass.proofs.Answered.{out_answers, out_shut, out_trial}
use Rattle.closing_pass.proofs.moves.ShutIsland.try_out.Goals as goal

pub route_past-requires-clause-ready : goal.route_past-requires-clause-ready
route_past-requires-clause-ready c = c.requires.ready

pub route_past-requires-clause-makes : goal.route_past-requires-clause-makes
route_past-requires-clause-makes c = record {
  item = c.args.item.now;
  there = c.requires.item.there;
  routed = c.requires.item.routed;
  id_is = refl;
  moved_fits = tt;
}

pub attempt-requires-clause-ready : goal.attempt-requires-clause-ready
attempt-requires-clause-ready c = c.in_ok-route_past.ensures.ready

pub attempt-requires-clause-item : goal.attempt-requires-clause-item
attempt-requires-clause-item c = c.requires.item

pub attempt-requires-clause-trial : goal.attempt-requires-clause-trial
attempt-requires-clause-trial c =
    let s = c.args.self.now in
    let x = c.args.item.now in
    let inv = subst (λ (t : ShutIslandOf). IsShutIsland t.lat t.via_cost t.board t.island t.others t.cut) c.self.view_is
    c.self.invariant in
    let kept = subst (λ (t : ShutIslandOf). IsBoard t.board) c.self.view_is c.keeps.ensures in
    out_trial s inv kept x c.requires.item c.in-Some.route c.offer_past-offer.result
    (subst (λ (f : Option Route). FindsRoute s x.id None f) c.in-Some.is c.in_ok-route_past.ensures.finds)
    (subst (λ (y : List ℕ × List Shoved). IsPastOffer s c.in-Some.route y.0 y.1 c.offer_past-offer.result)
    (λ i. (c.in_ok-rip-in-Some.ensures i, c.new.ensures i)) c.offer_past-offer.ensures)

pub returns-in-None-clause-answers : goal.returns-in-None-clause-answers
returns-in-None-clause-answers c =
    let s = c.args.self.now in
    let x = c.args.item.now in
    let inv = subst (λ (t : ShutIslandOf). IsShutIsland t.lat t.via_cost t.board t.island t.others t.cut) c.self.view_is
    c.self.invariant in
    let kept = subst (λ (t : ShutIslandOf). IsBoard t.board) c.self.view_is c.keeps.ensures in
    out_shut s inv kept x c.requires.item
    (subst (λ (f : Option Route). FindsRoute s x.id None f) c.in-None.is c.in_ok-route_past.ensures.finds)

pub returns-in-None-clause-ready : goal.returns-in-None-clause-ready
returns-in-None-clause-ready c = c.in_ok-route_past.ensures.ready

pub returns-in_ok-rip-in-Some-clause-answers : goal.returns-in_ok-rip-in-Some-clause-answers
returns-in_ok-rip-in-Some-clause-answers c =
    let s = c.args.self.now in
    let x = c.args.item.now in
    let o = c.offer_past-offer.result in
    let inv = subst (λ (t : ShutIslandOf). IsShutIsland t.lat t.via_cost t.board t.island t.others t.cut) c.self.view_is
    c.self.invariant in
    let kept = subst (λ (t : ShutIslandOf). IsBoard t.board) c.self.view_is c.keeps.ensures in
    let p = subst (λ (y : List ℕ × List Shoved). IsPastOffer s c.in-Some.route y.0 y.1 o)
    (λ i. (c.in_ok-rip-in-Some.ensures i, c.new.ensures i)) c.offer_past-offer.ensures in
    let trial : IsPastTrial s x o = out_trial s inv kept x c.requires.item c.in-Some.route o
    (subst (λ (f : Option Route). FindsRoute s x.id None f) c.in-Some.is c.in_ok-route_past.ensures.finds) p in
    IfOk-weaker c.attempt.result (AnswersTrial s x o) (AnswersBy s x.id (λ q. TakesOut q x.id))
    (λ r h. out_answers s inv kept x c.requires.item o trial
    (record { rip_is = p.rip_is; no_shove = p.shoves_are }) r h) c.attempt.ensures.tries

pub returns-in_ok-rip-in-Some-clause-ready : goal.returns-in_ok-rip-in-Some-clause-ready
returns-in_ok-rip-in-Some-clause-ready c = c.attempt.ensures.ready
