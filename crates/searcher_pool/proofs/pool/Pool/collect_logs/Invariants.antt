use Rattle.std.proofs.Common.{◌≡◌, ◌+◌, ◌<◌, ◌≤◌, ℕ, false, All, length, vec_len, vec_capacity}
use Rattle.std.specs.Prelude.{slice_index_or}
use Rattle.crossbeam_utils.specs.Padded.{padded_value}
use Rattle.crossbeam_utils.specs.declared.cache_padded.CachePadded.{CachePadded}
use Rattle.board_turn.specs.Claims.{times}
use Rattle.searcher_pool.specs.declared.worker.Worker.{Worker}
use Rattle.searcher_pool.specs.Passes.{claimed}
use Rattle.searcher_pool.specs.inner.Working.{Worked}
use Rattle.searcher_pool.specs.inner.Workers.{SEATS, AreEnded, AreLogsOf}
use Rattle.searcher_pool.proofs.pool.Pool.collect_logs.Given as goal

abbrev pub invariant-loop-padded : goal.invariant-loop-padded
invariant-loop-padded g l = record {
  back : All (λ (w : CachePadded Worker). Worked l.self.pass l.self.turn l.self.counter (padded_value w).pass.name
      (padded_value w)) l.buffers.workers.items;
  names : (k : ℕ) (d : CachePadded Worker) → k < length l.buffers.workers.items
      → (padded_value (slice_index_or l.buffers.workers.items k d)).pass.name + k + 1 ≡ l.self.pass.workers;
  count : length l.buffers.logs.items + length l.buffers.workers.items ≡ l.self.pass.workers;
  both : (vec_len l.passes ≡ length l.buffers.logs.items) × (vec_len l.buffers.logs ≡ length l.buffers.logs.items);
  room : (l.self.pass.workers ≤ vec_capacity l.passes) × (l.self.pass.workers ≤ vec_capacity l.buffers.logs);
  turns : All (λ q. q.turn ≡ l.self.turn) l.passes.items;
  logs_of : AreLogsOf l.self.pass l.self.turn l.passes.items l.buffers.logs.items;
  table : l.buffers.own_claimer.table ≡ l.self.counter.table;
  shares : l.buffers.own_claimer.hand.shares + length l.buffers.workers.items ≡ SEATS;
  drawn : (x : ℕ) → times x l.buffers.own_claimer.hand.drawn ≡ claimed x l.buffers.logs.items;
  done : l.failed ≡ false
      → (0 < length l.buffers.logs.items → l.self.counter.tasks ≤ l.buffers.own_claimer.hand.floor)
      × AreEnded l.self.pass l.self.turn l.passes.items l.buffers.logs.items;
}

abbrev pub decreases-loop-padded : goal.decreases-loop-padded
decreases-loop-padded g l = vec_len l.buffers.workers
