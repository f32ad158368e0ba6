use Rattle.route_plan.proofs.Fitting.{NoneBefore}
use Rattle.route_plan.proofs.fit.NewItems.first_fit.Given as goal

abbrev pub invariant-loop-run : goal.invariant-loop-run
invariant-loop-run g l = NoneBefore l.self.on.d l.self.on.lat l.self.on.items l.self.new l.item l.run
