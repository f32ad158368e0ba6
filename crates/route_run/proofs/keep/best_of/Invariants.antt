use Rattle.route_run.specs.inner.Passing.{IsBestOf}
use Rattle.route_run.proofs.keep.best_of.Given as goal

abbrev pub invariant-loop-k : goal.invariant-loop-k
invariant-loop-k l = IsBestOf l.lines l.k l.place
