use Rattle.std.proofs.Common.{◌≡◌, ◌∙◌, ◌+◌, ◌<◌, ℕ, arith, ap, sym, subst, List, [], ◌∷◌, ◌++◌, length}
use Rattle.std.proofs.Common.{All}
use Rattle.std.specs.Prelude.{AllPairs, slice_index_or}
use Rattle.std.proofs.lemmas.List.{length-append}
use Rattle.std.proofs.lemmas.List.Elements.{All-nil}
use Rattle.crossbeam_utils.specs.Padded.{padded_value}
use Rattle.crossbeam_utils.specs.declared.cache_padded.CachePadded.{CachePadded}
use Rattle.board_turn.specs.declared.claims.Hand.{Hand}
use Rattle.board_turn.specs.Claims.{times}
use Rattle.board_turn.proofs.Totals.{times-append}
use Rattle.board_turn.specs.Turns.{PassOf}
use Rattle.searcher_pool.specs.declared.log.OfferNote.{OfferNote}
use Rattle.searcher_pool.specs.declared.log.WorkerLog.{WorkerLog}
use Rattle.searcher_pool.specs.declared.worker.Worker.{Worker}
use Rattle.searcher_pool.specs.Passes.{claimed}
use Rattle.searcher_pool.specs.inner.Pools.{PoolOf}
use Rattle.searcher_pool.specs.inner.Working.{EndsDrawn, Knows, Worked}
use Rattle.searcher_pool.specs.inner.Workers.{AreEnded, AreLogsOf, IsLogOf}
use Rattle.searcher_pool.proofs.Rows.{at_front, at_last, at_push}
use Rattle.searcher_pool.proofs.Workers.{claimed_push, ended_push, logs_push, no_logs}
use Rattle.searcher_pool.proofs.pool.Pool.collect_logs.Goals as goal

pub loop-padded-init : goal.loop-padded-init
loop-padded-init g c =
    let p = c.args.self.now.pass in
    let t = c.args.self.now.turn in
    let passes : c.args.passes.now.items ≡ [] = c.requires.passes.0 in
    let logs : c.args.buffers.now.logs.items ≡ [] = c.requires.lent.logs_empty.0 in
    let none : length c.args.buffers.now.logs.items ≡ 0 = ap length logs in
    let count = c.requires.workers.count in
    record {
      back = c.requires.workers.back;
      names = λ k d lt. (let n = c.requires.workers.names k d lt in omega (arith, n, count));
      count = omega (arith, none, count);
      both = (
        (let a = c.requires.passes.1 in omega (arith, a, none)),
        (let a = c.requires.lent.logs_empty.1 in omega (arith, a, none)),
      );
      room = (c.requires.passes.2, c.requires.lent.logs_room);
      turns = subst (All (λ (q : PassOf). q.turn ≡ t)) (sym passes) (All-nil _);
      logs_of = subst (λ (qs : List PassOf). AreLogsOf p t qs c.args.buffers.now.logs.items) (sym passes)
          (subst (AreLogsOf p t []) (sym logs) (no_logs p t));
      table = c.requires.lent.table_is;
      shares = (let a = ap (λ (h : Hand). h.shares) c.requires.lent.hand_is in let few = c.keeps.ensures.turn.few in
          omega (arith, a, few, count));
      drawn = λ x. ap (λ (h : Hand). times x h.drawn) c.requires.lent.hand_is ∙ sym (ap (claimed x) logs);
      done = λ fine. (
        λ some. absurd (omega (arith, some, none)),
        subst (λ (qs : List PassOf). AreEnded p t qs c.args.buffers.now.logs.items) (sym passes)
            (subst (AreEnded p t []) (sym logs) tt),
      );
    }

pub join-requires-clause-table : goal.join-requires-clause-table
join-requires-clause-table g c =
    let Back : CachePadded Worker → Type 0 = λ u. Worked c.args.self.now.pass c.args.self.now.turn
    c.args.self.now.counter (padded_value u).pass.name (padded_value u) in
    let back : Back c.in-Some.padded = at_last (λ (k : ℕ) (u : CachePadded Worker). Back u) c.pop.new.self.items
    c.in-Some.padded (subst (All Back) c.in-Some.ensures.items c.loop-padded.invariant.back) in
    let same = sym (ap (λ (o : PoolOf). o.counter.table) c.self.view_is) in (
      c.loop-padded.invariant.table ∙ same,
      ap (λ (w : Worker). w.seat.table) c.into_inner-number.ensures ∙ back.seated.table ∙ same,
    )

pub join-requires-clause-share : goal.join-requires-clause-share
join-requires-clause-share g c =
    let shares = c.loop-padded.invariant.shares in
    let count = c.loop-padded.invariant.count in
    let few = c.keeps.ensures.turn.few in
    omega (arith, shares, count, few)

pub loop-padded-preserved : goal.loop-padded-preserved
loop-padded-preserved g c =
    let inv = c.loop-padded.invariant in
    let p = c.args.self.now.pass in
    let t = c.args.self.now.turn in
    let rest = c.pop.new.self.items in
    let Back : CachePadded Worker → Type 0 = λ u. Worked p t c.args.self.now.counter (padded_value u).pass.name
    (padded_value u) in
    let IsNamed : ℕ → CachePadded Worker → Type 0 = λ k u. (padded_value u).pass.name + k + 1 ≡ p.workers in
    let all : All Back (rest ++ c.in-Some.padded ∷ []) = subst (All Back) c.in-Some.ensures.items inv.back in
    let names : (k : ℕ) (d : CachePadded Worker) → k < length (rest ++ c.in-Some.padded ∷ [])
    → IsNamed k (slice_index_or (rest ++ c.in-Some.padded ∷ []) k d) =
    subst (λ (us : List (CachePadded Worker)). (k : ℕ) (d : CachePadded Worker) → k < length us
    → IsNamed k (slice_index_or us k d)) c.in-Some.ensures.items inv.names in
    let w = c.into_inner-number.result in
    let worked : Worked p t c.args.self.now.counter w.pass.name w =
    subst (λ (v : Worker). Worked p t c.args.self.now.counter v.pass.name v) (sym c.into_inner-number.ensures)
    (at_last (λ (k : ℕ) (u : CachePadded Worker). Back u) rest c.in-Some.padded all) in
    let name : w.pass.name + length rest + 1 ≡ p.workers =
    subst (λ (v : Worker). v.pass.name + length rest + 1 ≡ p.workers) (sym c.into_inner-number.ensures)
    (at_last IsNamed rest c.in-Some.padded names) in
    let log : WorkerLog = record { worker = w.number; tasks = c.from_vec.result; notes = c.from_vec-in-Some.result } in
    let is_log : IsLogOf p t w.pass log = record {
      worker_is = worked.ready.number_is;
      ascends = subst (AllPairs (λ (x y : ℕ). x < y)) (sym c.from_vec.ensures) worked.seated.ascends;
      knows = subst (λ (xs : List ℕ). Knows p t w.pass xs log.notes) (sym c.from_vec.ensures)
          (subst (λ (ns : List OfferNote). Knows p t w.pass w.drawn.items ns) (sym c.from_vec-in-Some.ensures)
          worked.ready.knows);
    } in
    let put = c.push_reserved.ensures in
    let wrote = c.push_reserved-in-Some.ensures in
    let workers : length c.loop-padded.buffers.workers.items ≡ length rest + 1 =
    ap length c.in-Some.ensures.items ∙ length-append rest _ in
    let logs : length c.push_reserved-in-Some.new.self.items ≡ length c.loop-padded.buffers.logs.items + 1 =
    ap length wrote.items ∙ length-append c.loop-padded.buffers.logs.items _ in
    let count = inv.count in
    let did = c.join.ensures in
    let number = worked.ready.number_is in
    record {
      back = at_front (λ (k : ℕ) (u : CachePadded Worker). Back u) rest c.in-Some.padded all;
      names = at_front IsNamed rest c.in-Some.padded names;
      count = omega (arith, count, workers, logs);
      both = (
        (let a = inv.both.0 in let b = put.len in omega (arith, a, b, logs)),
        (let a = inv.both.1 in let b = wrote.len in omega (arith, a, b, logs)),
      );
      room = (
        (let a = inv.room.0 in let b = put.capacity in omega (arith, a, b)),
        (let a = inv.room.1 in let b = wrote.capacity in omega (arith, a, b)),
      );
      turns = subst (All (λ (q : PassOf). q.turn ≡ t)) (sym put.items)
          (at_push (λ (k : ℕ) (q : PassOf). q.turn ≡ t) c.loop-padded.passes.items w.pass inv.turns
          worked.ready.knows.turn_is);
      logs_of = subst (λ (qs : List PassOf). AreLogsOf p t qs c.push_reserved-in-Some.new.self.items) (sym put.items)
          (subst (AreLogsOf p t (c.loop-padded.passes.items ++ w.pass ∷ [])) (sym wrote.items)
          (logs_push p t c.loop-padded.passes.items c.loop-padded.buffers.logs.items w.pass log inv.logs_of is_log
          (omega (arith, number, name, count, workers))));
      table = did.0 ∙ inv.table;
      shares = (let a = ap (λ (h : Hand). h.shares) did.1 in let b = inv.shares in let d = worked.seated.shares in
          omega (arith, a, b, d, workers));
      drawn = λ x.
          (let a = ap (λ (h : Hand). times x h.drawn) did.1 in
          let b = times-append x c.loop-padded.buffers.own_claimer.hand.drawn w.seat.hand.drawn in
          let d = ap (times x) (worked.seated.drawn ∙ sym c.from_vec.ensures) in
          let e = claimed_push x c.loop-padded.buffers.logs.items log in
          let f = ap (claimed x) wrote.items in
          let h = inv.drawn x in
          omega (arith, a, b, d, e, f, h));
      done = λ fine.
          (let short = c.either-failed.ensures fine in
          let before = inv.done short.0 in
          let here = worked.done short.1 in (
            λ some. (let a = ap (λ (h : Hand). h.floor) did.1 in let b = here.0 in omega (arith, a, b)),
            subst (λ (qs : List PassOf). AreEnded p t qs c.push_reserved-in-Some.new.self.items) (sym put.items)
                (subst (AreEnded p t (c.loop-padded.passes.items ++ w.pass ∷ [])) (sym wrote.items)
                (ended_push p t c.loop-padded.passes.items c.loop-padded.buffers.logs.items w.pass log before.1
                (subst (λ (xs : List ℕ). EndsDrawn p t w.pass xs log.notes) (sym c.from_vec.ensures)
                (subst (EndsDrawn p t w.pass w.drawn.items) (sym c.from_vec-in-Some.ensures) here.1)))),
          ));
    }
