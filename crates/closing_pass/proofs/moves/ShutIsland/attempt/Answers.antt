use Rattle.std.proofs.Common.{Option, refl, subst, sym}
use Rattle.pcb_board.specs.Boards.{BoardOf}
use Rattle.pcb_board.specs.Keeping.{IsBoard}
use Rattle.closing_pass.specs.inner.Steps.{AreReady}
use Rattle.closing_pass.specs.inner.Trials.{IsTrial, TriesOffer, after_trial}
use Rattle.closing_pass.specs.inner.Tries.{IsShutIsland, ShutIslandOf}
use Rattle.closing_pass.proofs.Attempts.{MayMoveAside, MayTakeOut, helped, is_trial, none_helps}
use Rattle.closing_pass.proofs.moves.ShutIsland.attempt.Goals as goal

pub trial-requires-clause-ready : goal.trial-requires-clause-ready
trial-requires-clause-ready c =
    subst (λ (s : ShutIslandOf). AreReady s.lat s.via_cost s.board c.args.state.now) (sym c.self.view_is)
    c.requires.ready

pub trial-requires-clause-trial : goal.trial-requires-clause-trial
trial-requires-clause-trial c =
    let out : MayTakeOut =
    λ m via_cost b o x kept up plain fits base worker there least none rip shoves x_in routed clash.
    c.one_may_be_taken_out.ensures m via_cost b o x.id kept up plain fits base worker there least none rip shoves
    (record { item = x; there = x_in; id_is = refl; in_way = record { routed = routed; clashes = clash } }) in
    let aside : MayMoveAside =
    λ m via_cost b o x r up1 chain kept up plain fits base worker there least none x_in wire shove shoves rip routed
    clash.
    c.one_may_be_moved_aside.ensures m via_cost b o x r up1 chain kept up plain fits base worker there least none x_in
    wire shove shoves rip (record { routed = routed; clashes = clash }) in
    subst (λ (s : ShutIslandOf). IsTrial s.lat s.via_cost s.board c.args.offer c.in-Some.net) (sym c.self.view_is)
    (is_trial c.args.self.now c.args.item.now c.args.offer c.in-Some.net
    (subst (λ (s : ShutIslandOf). IsShutIsland s.lat s.via_cost s.board s.island s.others s.cut) c.self.view_is
    c.self.invariant) (subst (λ (s : ShutIslandOf). IsBoard s.board) c.self.view_is c.keeps.ensures) c.requires.item
    c.in-Some.is c.requires.trial out aside)

pub returns-in-Some-2-clause-tries : goal.returns-in-Some-2-clause-tries
returns-in-Some-2-clause-tries c =
    let s = c.args.self.now in
    helped s c.args.item.now c.args.offer c.in-Some.net
    (subst (λ (t : ShutIslandOf). IsShutIsland t.lat t.via_cost t.board t.island t.others t.cut) c.self.view_is
    c.self.invariant) (subst (λ (t : ShutIslandOf). IsBoard t.board) c.self.view_is c.keeps.ensures) c.requires.item
    c.in-Some.is c.requires.trial c.in-Some-2.helped c.keeps-in-Some-2.ensures
    (subst (λ (r : Option BoardOf). TriesOffer s.lat s.via_cost s.board c.args.offer c.in-Some.net r) c.in-Some-2.is
    (subst (λ (t : ShutIslandOf). TriesOffer t.lat t.via_cost t.board c.args.offer c.in-Some.net c.in_ok-helped.field-0)
    c.self.view_is c.in_ok-helped.ensures.tries))

pub returns-in-Some-2-clause-ready : goal.returns-in-Some-2-clause-ready
returns-in-Some-2-clause-ready c =
    let s = c.args.self.now in
    subst (λ (r : Option BoardOf). AreReady s.lat s.via_cost (after_trial s.board r) c.trial.new.state) c.in-Some-2.is
    (subst (λ (t : ShutIslandOf). AreReady t.lat t.via_cost (after_trial t.board c.in_ok-helped.field-0)
    c.trial.new.state) c.self.view_is c.in_ok-helped.ensures.ready)

pub returns-in-None-clause-tries : goal.returns-in-None-clause-tries
returns-in-None-clause-tries c =
    let s = c.args.self.now in
    let out : MayTakeOut =
    λ m via_cost b o x kept up plain fits base worker there least none rip shoves x_in routed clash.
    c.one_may_be_taken_out.ensures m via_cost b o x.id kept up plain fits base worker there least none rip shoves
    (record { item = x; there = x_in; id_is = refl; in_way = record { routed = routed; clashes = clash } }) in
    let aside : MayMoveAside =
    λ m via_cost b o x r up1 chain kept up plain fits base worker there least none x_in wire shove shoves rip routed
    clash.
    c.one_may_be_moved_aside.ensures m via_cost b o x r up1 chain kept up plain fits base worker there least none x_in
    wire shove shoves rip (record { routed = routed; clashes = clash }) in
    none_helps s c.args.item.now c.args.offer c.in-Some.net
    (subst (λ (t : ShutIslandOf). IsShutIsland t.lat t.via_cost t.board t.island t.others t.cut) c.self.view_is
    c.self.invariant) (subst (λ (t : ShutIslandOf). IsBoard t.board) c.self.view_is c.keeps.ensures) c.requires.item
    c.in-Some.is c.requires.trial out aside
    (subst (λ (r : Option BoardOf). TriesOffer s.lat s.via_cost s.board c.args.offer c.in-Some.net r) c.in-None.is
    (subst (λ (t : ShutIslandOf). TriesOffer t.lat t.via_cost t.board c.args.offer c.in-Some.net c.in_ok-helped.field-0)
    c.self.view_is c.in_ok-helped.ensures.tries))

pub returns-in-None-clause-ready : goal.returns-in-None-clause-ready
returns-in-None-clause-ready c =
    let s = c.args.self.now in
    subst (λ (r : Option BoardOf). AreReady s.lat s.via_cost (after_trial s.board r) c.trial.new.state) c.in-None.is
    (subst (λ (t : ShutIslandOf). AreReady t.lat t.via_cost (after_trial t.board c.in_ok-helped.field-0)
    c.trial.new.state) c.self.view_is c.in_ok-helped.ensures.ready)
