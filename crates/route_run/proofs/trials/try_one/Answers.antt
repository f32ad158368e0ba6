use Rattle.std.proofs.Common.{subst, sym}
use Rattle.route_run.specs.inner.States.{IsLaterOf, PassStateOf}
use Rattle.route_run.proofs.trials.try_one.Goals as goal

pub returns : goal.returns
returns g c =
    subst (IsLaterOf c.args.from.now) (sym c.set_down.ensures)
    (subst (λ (s : PassStateOf). IsLaterOf s c.in_ok-passes.passes) c.in_ok-begun.ensures c.in_ok-passes.ensures.later)
