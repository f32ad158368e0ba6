use Rattle.route_run.specs.inner.States.{IsLaterOf}
use Rattle.route_run.proofs.trials.best_trial.Given as goal

abbrev pub invariant-loop-patterns : goal.invariant-loop-patterns
invariant-loop-patterns g l = IsLaterOf l.fn.from l.best
