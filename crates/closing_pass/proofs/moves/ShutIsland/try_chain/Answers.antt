use Rattle.std.proofs.Common.{◌≡◌, ℕ, List, [], ◌∷◌, ◌++◌, ◌∙◌, Option, Some, ap, subst, sym}
use Rattle.std.specs.Prelude.{All}
use Rattle.std.proofs.lemmas.Result.{IfOk-weaker}
use Rattle.geo_kernel.specs.declared.point.Point.{Point}
use Rattle.pcb_model.specs.declared.item.Item.{Item}
use Rattle.pcb_model.specs.declared.design.Padstack.{Padstack}
use Rattle.pcb_model.specs.declared.design.Design.{Design}
use Rattle.pcb_model.specs.Bounds.{IsFit}
use Rattle.board_offers.specs.Items.{reshaped}
use Rattle.board_offers.specs.declared.offer.Shoved.{Shoved}
use Rattle.pcb_board.specs.Keeping.{IsBoard}
use Rattle.pcb_board.proofs.Standing.{serves_now}
use Rattle.route_plan.specs.declared.route.Route.{Route}
use Rattle.closing_pass.specs.inner.Tries.{AnswersBy, AnswersTrial, FindsRoute, IsPastOffer, IsPastTrial, IsShutIsland}
use Rattle.closing_pass.specs.inner.Tries.{MovesTo, ShutIslandOf}
use Rattle.closing_pass.proofs.Answered.{aside_answers, aside_shut, aside_trial}
use Rattle.closing_pass.proofs.Wires.{makes_moved, moved_fit}
use Rattle.closing_pass.proofs.moves.ShutIsland.try_chain.Goals as goal

-- a list of one shove
abbrev one_shove : ℕ → List Point → List Shoved
one_shove id chain = (record { id = id; chain = chain }) ∷ []

pub reshape-requires-clause-wire : goal.reshape-requires-clause-wire
reshape-requires-clause-wire c = c.requires.shove.wire

pub reshape-requires-clause-fit : goal.reshape-requires-clause-fit
reshape-requires-clause-fit c =
    let s = c.args.self.now in
    let inv = subst (λ (t : ShutIslandOf). IsShutIsland t.lat t.via_cost t.board t.island t.others t.cut) c.self.view_is
    c.self.invariant in
    let kept = subst (λ (t : ShutIslandOf). IsBoard t.board) c.self.view_is c.keeps.ensures in
    moved_fit s inv kept c.args.item.now c.requires.item c.args.chain c.requires.shove

pub reshape-requires-clause-padstacks : goal.reshape-requires-clause-padstacks
reshape-requires-clause-padstacks c =
    subst (λ (d : Design). All (λ (t : Padstack). All IsFit t.pieces) d.padstacks) (sym c.design.ensures)
    (serves_now c.self.inside.board.now c.keeps.ensures).design_fits.padstacks_fit

pub route_past-requires-clause-ready : goal.route_past-requires-clause-ready
route_past-requires-clause-ready c = c.requires.ready

pub route_past-requires-clause-makes : goal.route_past-requires-clause-makes
route_past-requires-clause-makes c =
    let s = c.args.self.now in
    let x = c.args.item.now in
    let inv = subst (λ (t : ShutIslandOf). IsShutIsland t.lat t.via_cost t.board t.island t.others t.cut) c.self.view_is
    c.self.invariant in
    let kept = subst (λ (t : ShutIslandOf). IsBoard t.board) c.self.view_is c.keeps.ensures in
    let moved_is : c.in_ok-moved.moved ≡ reshaped s.board.design x.id c.args.chain x = c.in_ok-moved.ensures
    ∙ ap (λ (d : Design). reshaped d x.id c.args.chain x)
    (c.design.ensures ∙ ap (λ (t : ShutIslandOf). t.board.design) c.self.view_is) in
    makes_moved s inv kept x c.requires.item c.args.chain c.requires.shove c.in_ok-moved.moved moved_is

pub attempt-requires-clause-ready : goal.attempt-requires-clause-ready
attempt-requires-clause-ready c = c.in_ok-route_past.ensures.ready

pub attempt-requires-clause-item : goal.attempt-requires-clause-item
attempt-requires-clause-item c = c.requires.item

pub attempt-requires-clause-trial : goal.attempt-requires-clause-trial
attempt-requires-clause-trial c =
    let s = c.args.self.now in
    let x = c.args.item.now in
    let inv = subst (λ (t : ShutIslandOf). IsShutIsland t.lat t.via_cost t.board t.island t.others t.cut) c.self.view_is
    c.self.invariant in
    let kept = subst (λ (t : ShutIslandOf). IsBoard t.board) c.self.view_is c.keeps.ensures in
    let moved_is : c.in_ok-moved.moved ≡ reshaped s.board.design x.id c.args.chain x = c.in_ok-moved.ensures
    ∙ ap (λ (d : Design). reshaped d x.id c.args.chain x)
    (c.design.ensures ∙ ap (λ (t : ShutIslandOf). t.board.design) c.self.view_is) in
    let shoves_is : c.push.new.self ≡ one_shove x.id c.args.chain = c.in_ok-push-in-Some.ensures.ok
    ∙ ap (λ (ss : List Shoved). ss ++ one_shove x.id c.args.chain) c.new-shoves.ensures in
    aside_trial s inv kept x c.requires.item c.args.chain c.in-Some.route c.offer_past-offer.result c.requires.shove
    (subst (λ (y : Item × Option Route). FindsRoute s x.id (Some y.0) y.1) (λ i. (moved_is i, c.in-Some.is i))
    c.in_ok-route_past.ensures.finds)
    (subst (λ (y : List Shoved × List ℕ). IsPastOffer s c.in-Some.route y.1 y.0 c.offer_past-offer.result)
    (λ i. (shoves_is i, c.new.ensures i)) c.offer_past-offer.ensures)

pub returns-in-None-clause-answers : goal.returns-in-None-clause-answers
returns-in-None-clause-answers c =
    let s = c.args.self.now in
    let x = c.args.item.now in
    let inv = subst (λ (t : ShutIslandOf). IsShutIsland t.lat t.via_cost t.board t.island t.others t.cut) c.self.view_is
    c.self.invariant in
    let kept = subst (λ (t : ShutIslandOf). IsBoard t.board) c.self.view_is c.keeps.ensures in
    let moved_is : c.in_ok-moved.moved ≡ reshaped s.board.design x.id c.args.chain x = c.in_ok-moved.ensures
    ∙ ap (λ (d : Design). reshaped d x.id c.args.chain x)
    (c.design.ensures ∙ ap (λ (t : ShutIslandOf). t.board.design) c.self.view_is) in
    aside_shut s inv kept x c.requires.item c.args.chain
    (subst (λ (y : Item × Option Route). FindsRoute s x.id (Some y.0) y.1) (λ i. (moved_is i, c.in-None.is i))
    c.in_ok-route_past.ensures.finds)

pub returns-in-None-clause-ready : goal.returns-in-None-clause-ready
returns-in-None-clause-ready c = c.in_ok-route_past.ensures.ready

pub returns-in_ok-push-in-Some-clause-answers : goal.returns-in_ok-push-in-Some-clause-answers
returns-in_ok-push-in-Some-clause-answers c =
    let s = c.args.self.now in
    let x = c.args.item.now in
    let o = c.offer_past-offer.result in
    let inv = subst (λ (t : ShutIslandOf). IsShutIsland t.lat t.via_cost t.board t.island t.others t.cut) c.self.view_is
    c.self.invariant in
    let kept = subst (λ (t : ShutIslandOf). IsBoard t.board) c.self.view_is c.keeps.ensures in
    let moved_is : c.in_ok-moved.moved ≡ reshaped s.board.design x.id c.args.chain x = c.in_ok-moved.ensures
    ∙ ap (λ (d : Design). reshaped d x.id c.args.chain x)
    (c.design.ensures ∙ ap (λ (t : ShutIslandOf). t.board.design) c.self.view_is) in
    let shoves_is : c.push.new.self ≡ one_shove x.id c.args.chain = c.in_ok-push-in-Some.ensures.ok
    ∙ ap (λ (ss : List Shoved). ss ++ one_shove x.id c.args.chain) c.new-shoves.ensures in
    let p = subst (λ (y : List Shoved × List ℕ). IsPastOffer s c.in-Some.route y.1 y.0 o)
    (λ i. (shoves_is i, c.new.ensures i)) c.offer_past-offer.ensures in
    let trial : IsPastTrial s x o = aside_trial s inv kept x c.requires.item c.args.chain c.in-Some.route o
    c.requires.shove
    (subst (λ (y : Item × Option Route). FindsRoute s x.id (Some y.0) y.1) (λ i. (moved_is i, c.in-Some.is i))
    c.in_ok-route_past.ensures.finds) p in
    IfOk-weaker c.attempt.result (AnswersTrial s x o) (AnswersBy s x.id (λ q. MovesTo x.id c.args.chain q))
    (λ r h. aside_answers s inv kept x c.requires.item c.args.chain o trial
    (record { shoves_are = p.shoves_are; no_rip = p.rip_is }) r h) c.attempt.ensures.tries

pub returns-in_ok-push-in-Some-clause-ready : goal.returns-in_ok-push-in-Some-clause-ready
returns-in_ok-push-in-Some-clause-ready c = c.attempt.ensures.ready
