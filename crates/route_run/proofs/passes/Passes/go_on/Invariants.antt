use Rattle.std.proofs.Common.{◌-◌}
use Rattle.route_run.specs.inner.States.{HaveGone, IsLaterOf}
use Rattle.route_run.proofs.passes.Passes.go_on.Given as goal

abbrev pub invariant-loop-more : goal.invariant-loop-more
invariant-loop-more g l = record { gone : HaveGone l.made l.state l.more; later : IsLaterOf l.fn.self l.state }

abbrev pub decreases-loop-more : goal.decreases-loop-more
decreases-loop-more g l = l.most - l.made
