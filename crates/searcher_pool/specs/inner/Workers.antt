-- The workers of a pass, before and after their work, and their logs.
use Rattle.std.specs.Prelude.{◌≡◌, ℕ, ◌+◌, ◌<◌, ◌≤◌, List, [], length, All, AllPairs, slice_index_or}
use Rattle.std.specs.Prelude.{◌-◌, Vec, vec_len, vec_capacity}
use Rattle.std.specs.declared.alloc.Global.{Global}
use Rattle.std.specs.List.{AllZip}
use Rattle.crossbeam_utils.specs.Padded.{padded_value}
use Rattle.crossbeam_utils.specs.declared.cache_padded.CachePadded.{CachePadded}
use Rattle.route_lattice.specs.Mesh.{node_count}
use Rattle.board_turn.specs.Claims.{Claim, CounterOf, hand}
use Rattle.board_turn.specs.Turns.{TurnOf}
use Rattle.board_turn.specs.Turns as turn
use Rattle.searcher_pool.specs.declared.log.WorkerLog.{WorkerLog}
use Rattle.searcher_pool.specs.declared.pass.Buffers.{Buffers}
use Rattle.searcher_pool.specs.declared.worker.Worker.{Worker}
use Rattle.searcher_pool.specs.Passes.{PassOf}
use Rattle.searcher_pool.specs.inner.Working.{Knows, EndsDrawn, MayWork, Worked}

-- as many seats at a counter of tasks as there are: one for each worker, and one more
abbrev pub SEATS : ℕ
SEATS = 17

-- what a pass needs beside the turn and the counter: memory for each worker's searches, room for workers and logs, and
-- all seats at the counter
pub record AreBuffers (p : PassOf) (c : CounterOf) (r : Buffers) : Type 0 where
  pub searches_count : vec_len r.searches ≡ p.workers
  pub searches_are : All (λ s. s ≡ node_count p.lattice) r.searches.items
  pub workers_empty : (r.workers.items ≡ []) × (vec_len r.workers ≡ 0)
  pub workers_room : p.workers ≤ vec_capacity r.workers
  pub logs_empty : (r.logs.items ≡ []) × (vec_len r.logs ≡ 0)
  pub logs_room : p.workers ≤ vec_capacity r.logs
  pub table_is : r.own_claimer.table ≡ c.table
  pub hand_is : r.own_claimer.hand ≡ hand SEATS [] 0

-- each worker has a seat at the counter, the others are still there, and there is room for the logs
pub record AreLent (p : PassOf) (c : CounterOf) (own : Claim) (logs : Vec WorkerLog Global) : Type 0 where
  pub table_is : own.table ≡ c.table
  pub hand_is : own.hand ≡ hand (SEATS - p.workers) [] 0
  pub logs_empty : (logs.items ≡ []) × (vec_len logs ≡ 0)
  pub logs_room : p.workers ≤ vec_capacity logs

-- the names of the workers fall by one from place to place, down to 0
abbrev pub NamesFall : List (CachePadded Worker) → Type 0
NamesFall workers = (k : ℕ) (d : CachePadded Worker) → k < length workers
    → (padded_value (slice_index_or workers k d)).pass.name + k + 1 ≡ length workers

-- each worker may work
pub record AreFresh (p : PassOf) (t : TurnOf) (c : CounterOf) (workers : List (CachePadded Worker)) : Type 0 where
  pub count : length workers ≡ p.workers
  pub names : NamesFall workers
  pub fresh : All (λ (w : CachePadded Worker). MayWork p t c (padded_value w)) workers

-- each worker worked
pub record AreBack (p : PassOf) (t : TurnOf) (c : CounterOf) (workers : List (CachePadded Worker)) : Type 0 where
  pub count : length workers ≡ p.workers
  pub names : NamesFall workers
  pub back : All (λ (w : CachePadded Worker). Worked p t c (padded_value w).pass.name (padded_value w)) workers

-- the log of the worker with a pass of the turn, whose places ascend
pub record IsLogOf (p : PassOf) (t : TurnOf) (q : turn.PassOf) (log : WorkerLog) : Type 0 where
  pub worker_is : log.worker ≡ q.name
  pub ascends : AllPairs (λ (x y : ℕ). x < y) log.tasks
  pub knows : Knows p t q log.tasks log.notes

-- the passes of the turn that came back, in order of their names, and their logs
pub record AreLogsOf (p : PassOf) (t : TurnOf) (passes : List turn.PassOf) (logs : List WorkerLog) : Type 0 where
  pub logs_are : AllZip (IsLogOf p t) passes logs
  pub numbered : (k : ℕ) (d : WorkerLog) → k < length logs → (slice_index_or logs k d).worker ≡ k

-- all tasks in the logs ended
abbrev pub AreEnded : PassOf → TurnOf → List turn.PassOf → List WorkerLog → Type 0
AreEnded p t passes logs =
    AllZip (λ (q : turn.PassOf) (log : WorkerLog). EndsDrawn p t q log.tasks log.notes) passes logs
