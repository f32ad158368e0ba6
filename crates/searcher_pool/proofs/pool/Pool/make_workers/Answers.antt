use Rattle.std.proofs.Common.{refl, ◌≡◌, ◌∙◌, ◌+◌, ◌-◌, ◌<◌, ℕ, arith, ap, sym, subst, List, [], ◌∷◌, ◌++◌, length}
use Rattle.std.proofs.Common.{◌≤◌, vec_len, vec_capacity, All, Option}
use Rattle.std.specs.declared.alloc.Global.{Global}
use Rattle.std.specs.Prelude.{Vec, slice_index_or, option_to_list}
use Rattle.std.proofs.lemmas.List.{length-append}
use Rattle.crossbeam_utils.specs.Padded.{padded_value}
use Rattle.crossbeam_utils.specs.declared.cache_padded.CachePadded.{CachePadded}
use Rattle.route_lattice.specs.Mesh.{node_count}
use Rattle.board_turn.specs.Claims.{hand, less_one, newcomer}
use Rattle.board_turn.specs.Turns.{PassOf, passes_of}
use Rattle.board_turn.proofs.Seats.{passes_of-snoc}
use Rattle.searcher_pool.specs.declared.worker.Worker.{Worker}
use Rattle.searcher_pool.specs.declared.log.WorkerLog.{WorkerLog}
use Rattle.searcher_pool.specs.inner.Pools.{PoolOf}
use Rattle.searcher_pool.specs.inner.Working.{MayWork}
use Rattle.searcher_pool.specs.inner.Workers.{SEATS}
use Rattle.searcher_pool.proofs.Rows.{at_front, at_last, at_push, ends_same}
use Rattle.searcher_pool.proofs.Workers.{new_worker}
use Rattle.searcher_pool.proofs.pool.Pool.make_workers.Goals as goal

pub loop-pass-preserved : goal.loop-pass-preserved
loop-pass-preserved g c =
    let inv = c.loop-pass.invariant in
    let p = c.args.self.now.pass in
    let t = c.args.self.now.turn in
    let n = vec_len c.pop.new.self in
    let len : n + 1 ≡ vec_len c.loop-pass.passes = c.in-Some.ensures.cases in
    let at : ℕ → PassOf = λ k. record { turn = t; name = k; seen = [] } in
    let nought : 0 + n ≡ n = omega arith in
    let whole : c.pop.new.self.items ++ c.in-Some.pass ∷ [] ≡ passes_of t 0 n ++ at n ∷ [] =
    sym c.in-Some.ensures.items ∙ inv.left ∙ ap (passes_of t 0) (sym len) ∙ sym (passes_of-snoc t 0 n)
    ∙ ap (λ k. passes_of t 0 n ++ at k ∷ []) nought in
    let parts = ends_same c.pop.new.self.items (passes_of t 0 n) c.in-Some.pass (at n) whole in
    let workers = c.loop-pass.buffers.workers.items in
    let m = length workers in
    let put = c.push_reserved.ensures in
    let long : length c.push_reserved.new.self.items ≡ m + 1 = ap length put.items ∙ length-append workers _ in
    let count = inv.count in
    let nodes = node_count p.lattice in
    let found : c.loop-pass.buffers.searches.items ≡ c.pop-in-Some.new.self.items ++ c.unwrap-search.result ∷ [] =
    c.pop-in-Some.ensures.items
    ∙ ap (λ (o : Option ℕ). c.pop-in-Some.new.self.items ++ option_to_list o) c.unwrap-search.ensures in
    let all_sized : All (λ s. s ≡ nodes) (c.pop-in-Some.new.self.items ++ c.unwrap-search.result ∷ []) =
    subst (All (λ s. s ≡ nodes)) found inv.memory.1 in
    let one : length (option_to_list c.pop-in-Some.result) ≡ 1 =
    ap (λ (o : Option ℕ). length (option_to_list o)) c.unwrap-search.ensures in
    let made = c.new-in-Some-2.ensures in
    let cut = c.split-seat.ensures in
    let IsNamed : ℕ → CachePadded Worker → Type 0 = λ k w. (padded_value w).pass.name + k + 1 ≡ p.workers in
    let Fresh : CachePadded Worker → Type 0 = λ w. MayWork p t c.args.self.now.counter (padded_value w) in
    let fresh : Fresh c.new-in-Some-2.result =
    subst (MayWork p t c.args.self.now.counter) (sym made) (new_worker p t c.args.self.now.counter _ n parts.1
    c.len-number.ensures (omega (arith, len, count)) (at_last (λ k s. s ≡ nodes) c.pop-in-Some.new.self.items
    c.unwrap-search.result all_sized) c.new.ensures.items c.new-in-Some.ensures.items
    (cut.other.0 ∙ ap (λ (o : PoolOf). o.counter.table) c.self.view_is) (cut.other.1 ∙ ap newcomer inv.hand_is) refl) in
    let name : (padded_value c.new-in-Some-2.result).pass.name ≡ n =
    ap (λ (w : Worker). w.pass.name) made ∙ ap (λ (q : PassOf). q.name) parts.1 in
    record {
      left = parts.0;
      count = omega (arith, len, count, long);
      memory = (
        (let a = inv.memory.0 in let b = c.pop-in-Some.ensures.len in omega (arith, a, b, one, len)),
        at_front (λ k s. s ≡ nodes) c.pop-in-Some.new.self.items c.unwrap-search.result all_sized,
      );
      room = c.pop.ensures.capacity ∙ inv.room;
      space = (
        (let a = inv.space.0 in let b = put.len in omega (arith, a, b, long)),
        (let a = inv.space.1 in let b = put.capacity in omega (arith, a, b)),
      );
      table = cut.same.0 ∙ inv.table;
      hand_is = cut.same.1 ∙ ap less_one inv.hand_is ∙ (let less : SEATS - m - 1 ≡ SEATS - length
          c.push_reserved.new.self.items = omega (arith, long) in ap (λ (k : ℕ). hand k [] 0) less);
      logs = inv.logs;
      names = subst (λ (ws : List (CachePadded Worker)). (k : ℕ) (d : CachePadded Worker) → k < length ws
          → IsNamed k (slice_index_or ws k d)) (sym put.items)
          (at_push IsNamed workers c.new-in-Some-2.result inv.names (omega (arith, name, len, count)));
      fresh = subst (All Fresh) (sym put.items)
          (at_push (λ (k : ℕ) (w : CachePadded Worker). Fresh w) workers c.new-in-Some-2.result inv.fresh fresh);
    }

pub loop-pass-init : goal.loop-pass-init
loop-pass-init g c =
    let has = c.requires.buffers in
    let empty = ap length has.workers_empty.0 in
    record {
      left = c.requires.passes.0;
      count = (let a = c.requires.passes.1 in omega (arith, a, empty));
      memory = (has.searches_count ∙ sym c.requires.passes.1, has.searches_are);
      room = refl;
      space = (has.workers_empty.1 ∙ sym empty, has.workers_room);
      table = has.table_is;
      hand_is = has.hand_is ∙ (let all : SEATS ≡ SEATS - length c.args.buffers.now.workers.items = omega (arith, empty)
          in ap (λ (k : ℕ). hand k [] 0) all);
      logs = refl;
      names = λ k d lt. absurd (omega (arith, lt, empty));
      fresh = λ k d lt. absurd (omega (arith, lt, empty));
    }

pub split-seat-requires-clause-table : goal.split-seat-requires-clause-table
split-seat-requires-clause-table g c =
    c.loop-pass.invariant.table ∙ sym (ap (λ (o : PoolOf). o.counter.table) c.self.view_is)

pub returns-clause-workers : goal.returns-clause-workers
returns-clause-workers g c =
    let inv = c.loop-pass.invariant in
    let none = c.in_default.ensures.cases in
    let count : length c.loop-pass.buffers.workers.items ≡ c.args.self.now.pass.workers =
    (let a = inv.count in omega (arith, a, none)) in
    record {
      count = count;
      names = λ k d lt. (let n = inv.names k d lt in omega (arith, n, count));
      fresh = inv.fresh;
    }

pub returns-clause-lent : goal.returns-clause-lent
returns-clause-lent g c =
    let inv = c.loop-pass.invariant in
    let none = c.in_default.ensures.cases in
    let has = c.requires.buffers in
    let count : length c.loop-pass.buffers.workers.items ≡ c.args.self.now.pass.workers =
    (let a = inv.count in omega (arith, a, none)) in
    record {
      table_is = inv.table;
      hand_is = inv.hand_is ∙ ap (λ (k : ℕ). hand (SEATS - k) [] 0) count;
      logs_empty = subst (λ (v : Vec WorkerLog Global). (v.items ≡ []) × (vec_len v ≡ 0)) (sym inv.logs) has.logs_empty;
      logs_room = subst (λ (v : Vec WorkerLog Global). c.args.self.now.pass.workers ≤ vec_capacity v) (sym inv.logs)
          has.logs_room;
    }

pub push_reserved-requires : goal.push_reserved-requires
push_reserved-requires g c = let inv = c.loop-pass.invariant in
    let len : vec_len c.pop.new.self + 1 ≡ vec_len c.loop-pass.passes = c.in-Some.ensures.cases in
    let a = inv.space.0 in let b = inv.space.1 in let d = inv.count in omega (arith, a, b, d, len)
