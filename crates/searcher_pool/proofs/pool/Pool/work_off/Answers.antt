use Rattle.std.proofs.Common.{arith, inl, inr, refl, subst, sym, ℕ}
use Rattle.std.specs.Prelude.{Vec}
use Rattle.std.specs.declared.alloc.Global.{Global}
use Rattle.searcher_pool.specs.declared.worker.Attempt.TheVariants.{Joined, Late}
use Rattle.searcher_pool.specs.inner.Working.{Attempts, IsDrawn}
use Rattle.searcher_pool.proofs.Ending.{late_more, late_still, none_late}
use Rattle.searcher_pool.proofs.Knowing.{fewer_seen}
use Rattle.searcher_pool.proofs.Steps.{after_noted, after_on}
use Rattle.searcher_pool.proofs.pool.Pool.work_off.Goals as goal

pub loop-late-init : goal.loop-late-init
loop-late-init g c = record {
  ready = c.requires.ready;
  after = after_noted c.args.worker.now c.args.worker.now refl refl refl refl refl refl;
  within = omega arith;
  late = none_late c.args.worker.now.notes.items c.args.net;
}

pub plan_and_offer-requires : goal.plan_and_offer-requires
plan_and_offer-requires g c = record {
  ready = c.loop-late.invariant.ready;
  drawn = subst (λ (v : Vec ℕ Global). IsDrawn c.args.self.now.pass v.items c.args.net)
      (sym c.loop-late.invariant.after.drawn) c.requires.drawn;
}

pub returns-in_err-plan_and_offer-clause-ready : goal.returns-in_err-plan_and_offer-clause-ready
returns-in_err-plan_and_offer-clause-ready g c = c.plan_and_offer.ensures.ready

pub returns-in_err-plan_and_offer-clause-after : goal.returns-in_err-plan_and_offer-clause-after
returns-in_err-plan_and_offer-clause-after g c =
    after_on c.args.worker.now c.loop-late.worker c.plan_and_offer.new.worker c.loop-late.invariant.after
    c.plan_and_offer.ensures.after

pub returns-in-Ended-clause-ready : goal.returns-in-Ended-clause-ready
returns-in-Ended-clause-ready g c = c.plan_and_offer.ensures.ready

pub returns-in-Ended-clause-after : goal.returns-in-Ended-clause-after
returns-in-Ended-clause-after g c =
    after_on c.args.worker.now c.loop-late.worker c.plan_and_offer.new.worker c.loop-late.invariant.after
    c.plan_and_offer.ensures.after

pub returns-in-Ended-clause-ended : goal.returns-in-Ended-clause-ended
returns-in-Ended-clause-ended g c =
    subst (Attempts c.args.self.now.pass c.args.self.now.turn c.loop-late.worker c.plan_and_offer.new.worker
    c.args.net) c.in-Ended.is
    c.in_ok-plan_and_offer.ensures.attempt

pub loop-late-smaller-in-Joined : goal.loop-late-smaller-in-Joined
loop-late-smaller-in-Joined g c =
    let fewer : Attempts c.args.self.now.pass c.args.self.now.turn c.loop-late.worker c.plan_and_offer.new.worker
    c.args.net Joined =
    subst (Attempts c.args.self.now.pass c.args.self.now.turn c.loop-late.worker c.plan_and_offer.new.worker
    c.args.net) c.in-Joined.is
    c.in_ok-plan_and_offer.ensures.attempt in
    omega (arith, fewer)

pub loop-late-preserved-in-Joined : goal.loop-late-preserved-in-Joined
loop-late-preserved-in-Joined g c =
    let before = c.loop-late.invariant in
    let went = c.plan_and_offer.ensures.after in
    record {
      ready = c.plan_and_offer.ensures.ready;
      after = after_on c.args.worker.now c.loop-late.worker c.plan_and_offer.new.worker before.after went;
      within = before.within;
      late = late_still c.loop-late.worker.notes.items c.plan_and_offer.new.worker.notes.items c.args.net
          c.loop-late.late
          went.notes before.late;
    }

pub loop-late-preserved : goal.loop-late-preserved
loop-late-preserved g c =
    let before = c.loop-late.invariant in
    let went = c.plan_and_offer.ensures.after in
    let late : Attempts c.args.self.now.pass c.args.self.now.turn c.loop-late.worker c.plan_and_offer.new.worker
    c.args.net Late =
    subst (Attempts c.args.self.now.pass c.args.self.now.turn c.loop-late.worker c.plan_and_offer.new.worker
    c.args.net) c.in-Late.is
    c.in_ok-plan_and_offer.ensures.attempt in
    record {
      ready = c.plan_and_offer.ensures.ready;
      after = after_on c.args.worker.now c.loop-late.worker c.plan_and_offer.new.worker before.after went;
      within = (let test = c.loop-late-test.true in omega (arith, test));
      late = late_more c.loop-late.worker.notes.items c.plan_and_offer.new.worker.notes.items c.args.net
          c.loop-late.late late.0
          late.1 late.2 before.late;
    }

pub overflow_add-late : goal.overflow_add-late
overflow_add-late g c =
    let test = c.loop-late-test.true in
    omega (arith, test)

pub loop-late-smaller : goal.loop-late-smaller
loop-late-smaller g c =
    let fewer = fewer_seen c.args.self.now.turn c.loop-late.worker.pass.seen c.plan_and_offer.new.worker.pass.seen
    c.plan_and_offer.ensures.after.seen in
    let test = c.loop-late-test.true in
    omega (arith, fewer, test)

pub returns-clause-ready : goal.returns-clause-ready
returns-clause-ready g c = c.loop-late.invariant.ready

pub returns-clause-after : goal.returns-clause-after
returns-clause-after g c = c.loop-late.invariant.after

pub returns-clause-ended : goal.returns-clause-ended
returns-clause-ended g c = λ end reached.
    let late = c.loop-late.invariant.late in
    inr (inr (inl (record {
      tries = late.tries;
      eight = (let count = late.count_is in let within = c.loop-late.invariant.within in
          let test = c.loop-late-test.false in omega (arith, count, within, test));
      among = late.among;
      stale = late.stale;
    })))
