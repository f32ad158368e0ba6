use Rattle.std.proofs.Common.{◌≡◌, ℕ, List, Option, inl, inr, refl, subst}
use Rattle.pcb_islands.specs.declared.net.Island.{Island}
use Rattle.pcb_board.specs.Boards.{BoardOf}
use Rattle.pcb_board.proofs.Standing.{serves_now}
use Rattle.closing_pass.specs.Closing.{HaveCuts}
use Rattle.closing_pass.specs.inner.Steps.{AreReady, IsShutAt}
use Rattle.closing_pass.specs.inner.Trials.{after_trial}
use Rattle.closing_pass.specs.inner.Tries.{AnswersNet}
use Rattle.closing_pass.proofs.Fewer.{single}
use Rattle.closing_pass.proofs.Rounding.{net_settled}
use Rattle.closing_pass.proofs.join.Closer.help.Goals as goal

pub islands_on-requires : goal.islands_on-requires
islands_on-requires c = c.requires.net

pub help_net-requires-clause-ready : goal.help_net-requires-clause-ready
help_net-requires-clause-ready c = c.requires.ready

pub help_net-requires-clause-shut : goal.help_net-requires-clause-shut
help_net-requires-clause-shut c =
    let m = c.args.self.now.lat.now in
    let cost = c.args.self.now.via_cost in
    let net = c.args.net in
    let b = c.args.board.now in
    let found = c.in_ok-found.found in
    let same : c.requires.cuts.found ≡ found = single b.design b.items net c.requires.cuts.found found
    c.keeps.ensures.sound (serves_now b c.keeps.ensures) c.requires.cuts.islands c.in_ok-found.ensures in
    record {
      can = c.requires.ready.can;
      net = net;
      net_there = c.requires.net;
      islands = c.in_ok-found.ensures;
      shut = subst (λ (fs : List Island). (place : ℕ) → IsShutAt b.design m cost b.items fs place) same
          c.requires.cuts.shut;
    }

pub help_net-requires-clause-cuts : goal.help_net-requires-clause-cuts
help_net-requires-clause-cuts c =
    let net = c.args.net in
    let b = c.args.board.now in
    let found = c.in_ok-found.found in
    let same : c.requires.cuts.found ≡ found = single b.design b.items net c.requires.cuts.found found
    c.keeps.ensures.sound (serves_now b c.keeps.ensures) c.requires.cuts.islands c.in_ok-found.ensures in
    subst (λ (fs : List Island). HaveCuts b.design c.args.self.now.lat.now c.args.self.now.via_cost b.items fs
    c.args.cuts.now) same c.requires.cuts.cuts_are

pub returns-in-Some-clause-helped : goal.returns-in-Some-clause-helped
returns-in-Some-clause-helped c = inl
    (subst (λ (r : Option BoardOf). AnswersNet c.args.self.now.lat.now c.args.self.now.via_cost c.args.self.now.tries
    c.args.board.now c.in_ok-found.found c.args.cuts.now r) c.in-Some.is c.in_ok-helped.ensures.answers)

pub returns-in-Some-clause-ready : goal.returns-in-Some-clause-ready
returns-in-Some-clause-ready c =
    subst (λ (r : Option BoardOf). AreReady c.args.self.now.lat.now c.args.self.now.via_cost
    (after_trial c.args.board.now r) c.help_net.new.state) c.in-Some.is c.in_ok-helped.ensures.ready

pub returns-in_default-clause-helped : goal.returns-in_default-clause-helped
returns-in_default-clause-helped c = inr (
  refl,
  net_settled c.args.self.now.lat.now c.args.self.now.via_cost c.args.self.now.tries c.args.net c.args.board.now
      c.args.cuts.now c.in_ok-found.found c.keeps.ensures c.in_ok-found.ensures
      (subst (λ (r : Option BoardOf). AnswersNet c.args.self.now.lat.now c.args.self.now.via_cost
      c.args.self.now.tries c.args.board.now c.in_ok-found.found c.args.cuts.now r) c.in_default.is
      c.in_ok-helped.ensures.answers),
)

pub returns-in_default-clause-ready : goal.returns-in_default-clause-ready
returns-in_default-clause-ready c =
    subst (λ (r : Option BoardOf). AreReady c.args.self.now.lat.now c.args.self.now.via_cost
    (after_trial c.args.board.now r) c.help_net.new.state) c.in_default.is c.in_ok-helped.ensures.ready
