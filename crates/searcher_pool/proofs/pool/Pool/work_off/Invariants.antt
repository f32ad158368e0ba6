use Rattle.std.proofs.Common.{◌+◌, ◌-◌, ◌≤◌}
use Rattle.searcher_pool.specs.inner.Working.{IsAfter, IsReady, entries_left}
use Rattle.searcher_pool.proofs.Ending.{AreLate}
use Rattle.searcher_pool.proofs.pool.Pool.work_off.Given as goal

abbrev pub invariant-loop-late : goal.invariant-loop-late
invariant-loop-late g l = record {
  ready : IsReady l.self.pass l.self.turn l.worker;
  after : IsAfter l.fn.worker l.worker;
  within : l.late ≤ 8;
  late : AreLate l.worker.notes.items l.net l.late;
}

abbrev pub decreases-loop-late : goal.decreases-loop-late
decreases-loop-late g l = entries_left l.self.turn l.worker.pass.seen + (8 - l.late)
