use Rattle.std.proofs.Common.{◌≡◌, arith, length, subst}
use Rattle.route_run.specs.inner.Passing.{IsBestOf}
use Rattle.route_run.proofs.Best.{best}
use Rattle.route_run.proofs.keep.best_of.Goals as goal

pub returns : goal.returns
returns c =
    let end : c.loop-k.k ≡ length c.args.lines.now =
    omega (arith, c.loop-k.auto.k-end, c.loop-k-test.false, c.requires.0) in
    best c.args.lines.now c.loop-k.place
    (subst (λ n. IsBestOf c.args.lines.now n c.loop-k.place) end c.loop-k.invariant)
