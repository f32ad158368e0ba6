use Rattle.std.proofs.Common.{◌≡◌, ◌∙◌, All, ap, arith, refl, subst, sym}
use Rattle.board_turn.specs.Claims.{once_below}
use Rattle.board_turn.specs.Turns.{Ended, PassOf, TurnOf, count_of}
use Rattle.searcher_pool.specs.inner.Pools.{PoolOf}
use Rattle.searcher_pool.proofs.Together.{all_passed, grown}
use Rattle.searcher_pool.proofs.pool.Pool.work_and_close.Goals as goal

pub make_workers-requires-clause-passes : goal.make_workers-requires-clause-passes
make_workers-requires-clause-passes g c = (c.requires.passes.0, c.requires.passes.1)

pub collect_logs-failed-requires-clause-passes : goal.collect_logs-failed-requires-clause-passes
collect_logs-failed-requires-clause-passes g c = (
  c.make_workers.ensures.passes.1,
  c.make_workers.ensures.passes.0,
  omega (arith, c.make_workers.ensures.passes.2, c.requires.passes.2),
)

pub close-board-requires-clause-all : goal.close-board-requires-clause-all
close-board-requires-clause-all g c =
    subst (λ (t : TurnOf). All (λ (q : PassOf). q.turn ≡ t) c.collect_logs-failed.new.passes.items)
    (sym (ap (λ (o : PoolOf). o.turn) c.self.view_is)) c.collect_logs-failed.ensures.passes.1

pub close-board-requires-clause-count : goal.close-board-requires-clause-count
close-board-requires-clause-count g c =
    let is = c.keeps.ensures.turn in
    let same = ap (λ (o : PoolOf). count_of o.turn) c.self.view_is in (
      c.collect_logs-failed.ensures.passes.0 ∙ sym is.count ∙ sym same,
      omega (arith, is.some, is.count, same),
    )

pub finish-requires-clause-table : goal.finish-requires-clause-table
finish-requires-clause-table g c =
    c.collect_logs-failed.ensures.own.0 ∙ sym (ap (λ (o : PoolOf). o.counter.table) c.self.view_is)

pub finish-requires-clause-all : goal.finish-requires-clause-all
finish-requires-clause-all g c = (
  c.collect_logs-failed.ensures.own.1,
  (let end = (c.if-failed.ensures.done refl).0 in let same = ap (λ (o : PoolOf). o.counter.tasks) c.self.view_is in
      omega (arith, end, same)),
)

pub returns-then-failed-clause-grows : goal.returns-then-failed-clause-grows
returns-then-failed-clause-grows g c =
    grown c.args.self.pass c.args.self.turn c.close-board.result c.collect_logs-failed.new.passes.items
    c.collect_logs-failed.new.buffers.logs.items
    (subst (λ (t : TurnOf). Ended t c.collect_logs-failed.new.passes.items c.close-board.result)
    (ap (λ (o : PoolOf). o.turn) c.self.view_is) c.close-board.ensures) c.collect_logs-failed.ensures.logs
    c.collect_logs-failed.ensures.count

pub returns-clause-grows : goal.returns-clause-grows
returns-clause-grows g c =
    grown c.args.self.pass c.args.self.turn c.close-board.result c.collect_logs-failed.new.passes.items
    c.collect_logs-failed.new.buffers.logs.items
    (subst (λ (t : TurnOf). Ended t c.collect_logs-failed.new.passes.items c.close-board.result)
    (ap (λ (o : PoolOf). o.turn) c.self.view_is) c.close-board.ensures) c.collect_logs-failed.ensures.logs
    c.collect_logs-failed.ensures.count

pub returns-clause-passed : goal.returns-clause-passed
returns-clause-passed g c = λ fine.
    all_passed c.args.self.pass c.args.self.turn c.close-board.result c.collect_logs-failed.new.passes.items
    c.collect_logs-failed.new.buffers.logs.items
    (subst (λ (t : TurnOf). Ended t c.collect_logs-failed.new.passes.items c.close-board.result)
    (ap (λ (o : PoolOf). o.turn) c.self.view_is) c.close-board.ensures) c.collect_logs-failed.ensures.logs
    c.collect_logs-failed.ensures.count (c.if-failed.ensures.done refl).1
    (λ x. sym (c.collect_logs-failed.ensures.own.2 x) ∙ c.finish.ensures x
    ∙ ap (once_below x) (ap (λ (o : PoolOf). o.counter.tasks) c.self.view_is ∙ c.keeps.ensures.tasks))
