use Rattle.std.proofs.Common.{take}
use Rattle.closing_pass.specs.inner.Steps.{AreReady}
use Rattle.closing_pass.proofs.Helpless.{NoneOf}
use Rattle.closing_pass.proofs.moves.ShutIsland.try_named.Given as goal

abbrev pub invariant-loop-id : goal.invariant-loop-id
invariant-loop-id l = record {
  none : NoneOf l.self (take l.id-index l.id-items);
  ready : AreReady l.self.lat l.self.via_cost l.self.board l.state;
}
