use Rattle.closing_pass.specs.inner.Steps.{AreReady}
use Rattle.closing_pass.proofs.Rounding.{IsRounding}
use Rattle.closing_pass.proofs.join.Closer.round.Given as goal

abbrev pub invariant-loop-net : goal.invariant-loop-net
invariant-loop-net l = record {
  round : IsRounding l.self.lat.now l.self.via_cost l.self.tries l.net l.fn.board l.board l.ends;
  ready : AreReady l.self.lat.now l.self.via_cost l.board l.state;
}
