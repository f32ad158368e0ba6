use Rattle.closing_pass.specs.inner.Steps.{AreReady}
use Rattle.closing_pass.proofs.Answered.{NoneTo}
use Rattle.closing_pass.proofs.moves.ShutIsland.try_runs.Given as goal

abbrev pub invariant-loop-run : goal.invariant-loop-run
invariant-loop-run l = record {
  none : NoneTo l.self l.item l.run;
  ready : AreReady l.self.lat l.self.via_cost l.self.board l.state;
}
