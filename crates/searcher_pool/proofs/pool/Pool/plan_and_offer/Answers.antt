use Rattle.std.proofs.Common.{subst, sym}
use Rattle.std.specs.Prelude.{Vec}
use Rattle.std.specs.declared.alloc.Global.{Global}
use Rattle.searcher_pool.specs.inner.Working.{Attempts, IsDrawn, PlansSeen}
use Rattle.searcher_pool.proofs.Steps.{after_on, attempt_on, ends_shut, ends_whole, is_planned, on_ok, quiet_on}
use Rattle.searcher_pool.proofs.pool.Pool.plan_and_offer.Goals as goal

pub take_snap-requires : goal.take_snap-requires
take_snap-requires g c = c.requires.ready

pub plan_on-requires-clause-at_task : goal.plan_on-requires-clause-at_task
plan_on-requires-clause-at_task g c = record {
  ready = c.take_snap.ensures.ready;
  drawn = subst (λ (v : Vec _ Global). IsDrawn c.args.self.now.pass v.items c.args.net)
      (sym c.take_snap.ensures.after.after.drawn) c.requires.drawn;
}

pub returns-in_err-snap-clause-after : goal.returns-in_err-snap-clause-after
returns-in_err-snap-clause-after g c = c.take_snap.ensures.after.after

pub returns-in_err-planned-clause-after : goal.returns-in_err-planned-clause-after
returns-in_err-planned-clause-after g c =
    (quiet_on c.args.worker.now c.take_snap.new.worker c.plan_on.new.worker c.take_snap.ensures.after
    c.plan_on.ensures.after).after

pub make_offer-requires-clause-at_task : goal.make_offer-requires-clause-at_task
make_offer-requires-clause-at_task g c =
    let both = quiet_on c.args.worker.now c.take_snap.new.worker c.plan_on.new.worker c.take_snap.ensures.after
    c.plan_on.ensures.after in
    record {
      ready = c.plan_on.ensures.ready;
      drawn = subst (λ (v : Vec _ Global). IsDrawn c.args.self.now.pass v.items c.args.net) (sym both.after.drawn)
          c.requires.drawn;
    }

pub make_offer-requires-clause-plan : goal.make_offer-requires-clause-plan
make_offer-requires-clause-plan g c =
    is_planned c.args.self.now.pass c.args.self.now.turn c.keeps.ensures.turn c.events_keep.ensures.boards
    c.plan_on.new.worker c.args.net c.in-Offer.offer c.plan_on.ensures.ready
    (subst (PlansSeen c.args.self.now.pass c.args.self.now.turn c.plan_on.new.worker c.args.net) c.in-Offer.is
    c.in_ok-planned.ensures.plan)

pub returns-in-Offer-clause-after : goal.returns-in-Offer-clause-after
returns-in-Offer-clause-after g c =
    let both = quiet_on c.args.worker.now c.take_snap.new.worker c.plan_on.new.worker c.take_snap.ensures.after
    c.plan_on.ensures.after in
    after_on c.args.worker.now c.plan_on.new.worker c.make_offer.new.worker both.after c.make_offer.ensures.after

pub returns-in-Offer-clause-attempt : goal.returns-in-Offer-clause-attempt
returns-in-Offer-clause-attempt g c =
    let both = quiet_on c.args.worker.now c.take_snap.new.worker c.plan_on.new.worker c.take_snap.ensures.after
    c.plan_on.ensures.after in
    on_ok (Attempts c.args.self.now.pass c.args.self.now.turn c.plan_on.new.worker c.make_offer.new.worker c.args.net)
    (Attempts c.args.self.now.pass c.args.self.now.turn c.args.worker.now c.make_offer.new.worker c.args.net)
    c.make_offer.result
    (λ a. attempt_on c.args.self.now.pass c.args.self.now.turn c.args.worker.now c.plan_on.new.worker
    c.make_offer.new.worker c.args.net a both) c.make_offer.ensures.attempt

pub returns-in-Shut-clause-after : goal.returns-in-Shut-clause-after
returns-in-Shut-clause-after g c =
    (quiet_on c.args.worker.now c.take_snap.new.worker c.plan_on.new.worker c.take_snap.ensures.after
    c.plan_on.ensures.after).after

pub returns-in-Shut-clause-attempt : goal.returns-in-Shut-clause-attempt
returns-in-Shut-clause-attempt g c =
    ends_shut c.args.self.now.pass c.args.self.now.turn c.keeps.ensures.turn c.events_keep.ensures.boards
    c.plan_on.new.worker c.args.net _
    (subst (PlansSeen c.args.self.now.pass c.args.self.now.turn c.plan_on.new.worker c.args.net) c.in-Shut.is
    c.in_ok-planned.ensures.plan)

pub returns-clause-after : goal.returns-clause-after
returns-clause-after g c =
    (quiet_on c.args.worker.now c.take_snap.new.worker c.plan_on.new.worker c.take_snap.ensures.after
    c.plan_on.ensures.after).after

pub returns-clause-attempt : goal.returns-clause-attempt
returns-clause-attempt g c =
    ends_whole c.args.self.now.pass c.args.self.now.turn c.keeps.ensures.turn c.events_keep.ensures.boards
    c.plan_on.new.worker c.args.net
    (subst (PlansSeen c.args.self.now.pass c.args.self.now.turn c.plan_on.new.worker c.args.net) c.in-Whole.is
    c.in_ok-planned.ensures.plan)
