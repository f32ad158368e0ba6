use Rattle.route_plan.proofs.Leading.{starts_there}
use Rattle.route_plan.proofs.route.NetSearch.route.Goals as goal

pub walk-found-requires-clause-starts : goal.walk-found-requires-clause-starts
walk-found-requires-clause-starts g c = starts_there c.args.self.now c.in_ok-starts.starts c.in_ok-starts.ensures
