use Rattle.std.proofs.Common.{subst, sym}
use Rattle.searcher_pool.specs.inner.Working.{MayWork, Worked}
use Rattle.searcher_pool.specs.declared.worker.Worker.{Worker}
use Rattle.searcher_pool.proofs.pool.Pool.work_padded.Goals as goal

pub work-requires : goal.work-requires
work-requires g c = subst (MayWork c.args.self.now.pass c.args.self.now.turn c.args.self.now.counter)
    (sym c.deref_mut.ensures.value) c.requires

pub returns : goal.returns
returns g c = subst (λ (w : Worker). Worked c.args.self.now.pass c.args.self.now.turn c.args.self.now.counter
    w.pass.name
    c.work.new.worker)
    c.deref_mut.ensures.value c.work.ensures
