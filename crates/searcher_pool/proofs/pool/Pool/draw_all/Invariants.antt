use Rattle.std.proofs.Common.{◌≡◌}
use Rattle.searcher_pool.specs.inner.Working.{MayWork}
use Rattle.searcher_pool.proofs.pool.Pool.draw_all.Given as goal

abbrev pub invariant-loop : goal.invariant-loop
invariant-loop g l = record {
  may_work : MayWork l.self.pass l.self.turn l.self.counter l.worker;
  name : l.worker.pass.name ≡ l.fn.worker.pass.name;
}
