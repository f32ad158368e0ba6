use Rattle.std.proofs.Common.{Bool, refl, subst}
use Rattle.std.specs.Bool.{OnFalse, OnTrue}
use Rattle.closing_pass.specs.inner.Rounds.{AreSettledEnds}
use Rattle.closing_pass.proofs.Rounding.{IsFalling, closed_same, closed_then, falling}
use Rattle.closing_pass.proofs.join.Closer.settle.Goals as goal

pub returns-in_err-open-clause-closes : goal.returns-in_err-open-clause-closes
returns-in_err-open-clause-closes c = closed_same c.args.self.now.lat.now c.args.self.now.via_cost c.args.board.now
    c.args.board.now c.keeps.ensures refl

pub returns-in_err-ends-clause-closes : goal.returns-in_err-ends-clause-closes
returns-in_err-ends-clause-closes c = c.close_and_round.ensures.closes

pub loop-helped-init : goal.loop-helped-init
loop-helped-init c = record {
  closes = c.close_and_round.ensures.closes;
  settled = c.in_ok-ends.ensures.settled;
  falls = falling c.in_ok-ends.helped c.args.board.now c.close_and_round.new.board c.in_ok-open.open
      c.in_ok-open.ensures c.in_ok-ends.ensures.fewer;
  ready = c.in_ok-ends.ensures.ready;
}

pub returns-in_err-open-2-clause-closes : goal.returns-in_err-open-2-clause-closes
returns-in_err-open-2-clause-closes c = c.loop-helped.invariant.closes

pub close_and_round-requires-in-loop-helped : goal.close_and_round-requires-in-loop-helped
close_and_round-requires-in-loop-helped c = c.loop-helped.invariant.ready

pub returns-in_err-ends-2-clause-closes : goal.returns-in_err-ends-2-clause-closes
returns-in_err-ends-2-clause-closes c = closed_then c.args.self.now.lat.now c.args.self.now.via_cost c.args.board.now
    c.loop-helped.board c.close_and_round-in-loop-helped.new.board c.keeps-in-loop-helped.ensures
    c.loop-helped.invariant.closes c.close_and_round-in-loop-helped.ensures.closes

pub loop-helped-smaller : goal.loop-helped-smaller
loop-helped-smaller c =
    let f : IsFalling c.loop-helped.board c.loop-helped.open = subst (λ (t : Bool). OnTrue t
    (IsFalling c.loop-helped.board c.loop-helped.open)) c.loop-helped-test.true c.loop-helped.invariant.falls in
    f.fewer c.loop-helped.open c.in_ok-open-2.open f.is_count c.in_ok-open-2.ensures

pub loop-helped-preserved : goal.loop-helped-preserved
loop-helped-preserved c = record {
  closes = closed_then c.args.self.now.lat.now c.args.self.now.via_cost c.args.board.now c.loop-helped.board
      c.close_and_round-in-loop-helped.new.board c.keeps-in-loop-helped.ensures c.loop-helped.invariant.closes
      c.close_and_round-in-loop-helped.ensures.closes;
  settled = c.in_ok-ends-2.ensures.settled;
  falls = falling c.in_ok-ends-2.field-0-1 c.loop-helped.board c.close_and_round-in-loop-helped.new.board
      c.in_ok-open-2.open c.in_ok-open-2.ensures c.in_ok-ends-2.ensures.fewer;
  ready = c.in_ok-ends-2.ensures.ready;
}

pub returns-clause-settled : goal.returns-clause-settled
returns-clause-settled c = subst (λ (t : Bool). OnFalse t (AreSettledEnds c.args.self.now.lat.now
    c.args.self.now.via_cost c.args.self.now.tries c.loop-helped.board c.loop-helped.ends)) c.loop-helped-test.false
    c.loop-helped.invariant.settled

pub returns-clause-closes : goal.returns-clause-closes
returns-clause-closes c = c.loop-helped.invariant.closes
