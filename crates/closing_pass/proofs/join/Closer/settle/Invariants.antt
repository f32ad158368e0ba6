use Rattle.std.specs.Bool.{OnFalse, OnTrue}
use Rattle.closing_pass.specs.Closing.{HasClosed}
use Rattle.closing_pass.specs.inner.Rounds.{AreSettledEnds}
use Rattle.closing_pass.specs.inner.Steps.{AreReady}
use Rattle.closing_pass.proofs.Rounding.{IsFalling}
use Rattle.closing_pass.proofs.join.Closer.settle.Given as goal

abbrev pub invariant-loop-helped : goal.invariant-loop-helped
invariant-loop-helped l = record {
  closes : HasClosed l.self.lat.now l.self.via_cost l.fn.board l.board;
  settled : OnFalse l.helped (AreSettledEnds l.self.lat.now l.self.via_cost l.self.tries l.board l.ends);
  falls : OnTrue l.helped (IsFalling l.board l.open);
  ready : AreReady l.self.lat.now l.self.via_cost l.board l.state;
}

abbrev pub decreases-loop-helped : goal.decreases-loop-helped
decreases-loop-helped l = l.open
