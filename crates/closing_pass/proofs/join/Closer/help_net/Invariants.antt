use Rattle.std.proofs.Common.{◌≡◌}
use Rattle.closing_pass.specs.inner.Steps.{AreReady}
use Rattle.closing_pass.proofs.Helpless.{AreSettledBelow}
use Rattle.closing_pass.proofs.join.Closer.help_net.Given as goal

abbrev pub invariant-loop-place : goal.invariant-loop-place
invariant-loop-place l = record {
  found : l.found ≡ l.fn.found;
  settled : AreSettledBelow l.self.lat.now l.self.via_cost l.self.tries l.board l.fn.found l.cuts l.place;
  ready : AreReady l.self.lat.now l.self.via_cost l.board l.state;
}
