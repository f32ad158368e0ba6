use Rattle.std.proofs.Common.{length}
use Rattle.closing_pass.specs.inner.Steps.{AreReady}
use Rattle.closing_pass.proofs.Rejoining.{IsRejoining}
use Rattle.closing_pass.proofs.join.Closer.rejoin.Given as goal

abbrev pub invariant-loop-alloc : goal.invariant-loop-alloc
invariant-loop-alloc l = record {
  rejoining : IsRejoining l.self.lat.now l.self.via_cost l.net l.most l.fn.board l.board l.found;
  ready : AreReady l.self.lat.now l.self.via_cost l.board l.state;
}

abbrev pub decreases-loop-alloc : goal.decreases-loop-alloc
decreases-loop-alloc l = length l.found
