use Rattle.route_check.proofs.Gone.{no_net, none_taken}
use Rattle.route_check.proofs.left.Linked.take_away.Goals as goal

pub returns-in-None-clause-taken : goal.returns-in-None-clause-taken
returns-in-None-clause-taken c = none_taken c.args.a.now c.args.gone.now.items c.args.self.now.xs.now
    (λ i x at free. no_net c.args.a.now x c.in-None.is)
