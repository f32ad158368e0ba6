use Rattle.route_run.specs.inner.States.{IsLaterOf}
use Rattle.route_run.proofs.trials.try_more.Given as goal

abbrev pub invariant-loop-passes : goal.invariant-loop-passes
invariant-loop-passes g l = IsLaterOf l.fn.from l.best
