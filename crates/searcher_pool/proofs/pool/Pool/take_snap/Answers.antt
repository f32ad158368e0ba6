use Rattle.std.proofs.Common.{◌∙◌, ap, refl, sym}
use Rattle.searcher_pool.specs.inner.Pools.{PoolOf}
use Rattle.searcher_pool.proofs.Steps.{looked}
use Rattle.searcher_pool.proofs.pool.Pool.take_snap.Goals as goal

pub snap-requires : goal.snap-requires
snap-requires g c = c.requires.knows.turn_is ∙ sym (ap (λ (o : PoolOf). o.turn) c.self.view_is)

pub returns-clause-ready : goal.returns-clause-ready
returns-clause-ready g c =
    (looked c.args.self.now.pass c.args.self.now.turn c.args.worker.now _ c.snap.result c.requires
    (record { number = refl; size = c.requires.size; drawn = refl; seat = refl; mapped = refl; failed = refl }) refl
    c.snap.ensures.ok c.snap.ensures.err).ready

pub returns-clause-after : goal.returns-clause-after
returns-clause-after g c =
    (looked c.args.self.now.pass c.args.self.now.turn c.args.worker.now _ c.snap.result c.requires
    (record { number = refl; size = c.requires.size; drawn = refl; seat = refl; mapped = refl; failed = refl }) refl
    c.snap.ensures.ok c.snap.ensures.err).after

pub returns-clause-snap : goal.returns-clause-snap
returns-clause-snap g c =
    (looked c.args.self.now.pass c.args.self.now.turn c.args.worker.now
    (record c.args.worker.now { pass = c.snap.new.pass }) c.snap.result c.requires
    (record { number = refl; size = c.requires.size; drawn = refl; seat = refl; mapped = refl; failed = refl }) refl
    c.snap.ensures.ok c.snap.ensures.err).snap
