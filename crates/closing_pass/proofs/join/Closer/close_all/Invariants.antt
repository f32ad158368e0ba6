use Rattle.closing_pass.specs.inner.Steps.{AreReady}
use Rattle.closing_pass.proofs.Closings.{AreClosed}
use Rattle.closing_pass.proofs.join.Closer.close_all.Given as goal

abbrev pub invariant-loop-net : goal.invariant-loop-net
invariant-loop-net l = record {
  closed : AreClosed l.self.lat.now l.self.via_cost l.net l.fn.board l.board;
  ready : AreReady l.self.lat.now l.self.via_cost l.board l.state;
}
