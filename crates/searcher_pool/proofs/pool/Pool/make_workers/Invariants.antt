use Rattle.std.proofs.Common.{◌≡◌, ◌+◌, ◌-◌, ◌<◌, ◌≤◌, ℕ, [], All, length, vec_len, vec_capacity}
use Rattle.std.specs.Prelude.{slice_index_or}
use Rattle.crossbeam_utils.specs.Padded.{padded_value}
use Rattle.crossbeam_utils.specs.declared.cache_padded.CachePadded.{CachePadded}
use Rattle.route_lattice.specs.Mesh.{node_count}
use Rattle.board_turn.specs.Claims.{hand}
use Rattle.board_turn.specs.Turns.{passes_of}
use Rattle.searcher_pool.specs.declared.worker.Worker.{Worker}
use Rattle.searcher_pool.specs.inner.Working.{MayWork}
use Rattle.searcher_pool.specs.inner.Workers.{SEATS}
use Rattle.searcher_pool.proofs.pool.Pool.make_workers.Given as goal

abbrev pub invariant-loop-pass : goal.invariant-loop-pass
invariant-loop-pass g l = record {
  left : l.passes.items ≡ passes_of l.self.turn 0 (vec_len l.passes);
  count : vec_len l.passes + length l.buffers.workers.items ≡ l.self.pass.workers;
  memory : (vec_len l.buffers.searches ≡ vec_len l.passes)
      × All (λ s. s ≡ node_count l.self.pass.lattice) l.buffers.searches.items;
  room : vec_capacity l.passes ≡ vec_capacity l.fn.passes;
  space : (vec_len l.buffers.workers ≡ length l.buffers.workers.items)
      × (l.self.pass.workers ≤ vec_capacity l.buffers.workers);
  table : l.buffers.own_claimer.table ≡ l.self.counter.table;
  hand_is : l.buffers.own_claimer.hand ≡ hand (SEATS - length l.buffers.workers.items) [] 0;
  logs : l.buffers.logs ≡ l.fn.buffers.logs;
  names : (k : ℕ) (d : CachePadded Worker) → k < length l.buffers.workers.items
      → (padded_value (slice_index_or l.buffers.workers.items k d)).pass.name + k + 1 ≡ l.self.pass.workers;
  fresh : All (λ (w : CachePadded Worker). MayWork l.self.pass l.self.turn l.self.counter (padded_value w))
      l.buffers.workers.items;
}

abbrev pub decreases-loop-pass : goal.decreases-loop-pass
decreases-loop-pass g l = vec_len l.passes
