use Rattle.std.proofs.Common.{List, subst, sym}
use Rattle.std.specs.Prelude.{All}
use Rattle.crossbeam_utils.specs.declared.cache_padded.CachePadded.{CachePadded}
use Rattle.crossbeam_utils.specs.Padded.{padded_value}
use Rattle.searcher_pool.specs.inner.Working.{MayWork}
use Rattle.searcher_pool.specs.declared.worker.Worker.{Worker}
use Rattle.searcher_pool.proofs.Spared.{workers_back}
use Rattle.searcher_pool.proofs.pool.Pool.run_workers.Goals as goal

pub returns : goal.returns
returns g c = workers_back c.args.self.now.pass c.args.self.now.turn c.args.self.now.counter c.args.workers.now.items
    c.as_mut_slice.result.now c.all_work.new.workers c.args.workers.now.len c.as_mut_slice.ensures.value
    (sym c.as_mut_slice.ensures.len) c.all_work.auto.workers c.requires c.all_work.ensures

pub all_work-requires-clause-fresh : goal.all_work-requires-clause-fresh
all_work-requires-clause-fresh g c = λ κs apart.
    subst (λ (ws : List (CachePadded Worker)). All (λ (w : CachePadded Worker). MayWork c.args.self.now.pass
    c.args.self.now.turn c.args.self.now.counter (padded_value w)) ws) (sym c.as_mut_slice.ensures.value)
    c.requires.fresh
