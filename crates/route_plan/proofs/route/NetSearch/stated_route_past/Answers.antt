use Rattle.std.proofs.Common.{subst}
use Rattle.route_plan.specs.declared.route.Routed.{Routed}
use Rattle.route_plan.specs.Routes.{FindsStated}
use Rattle.route_plan.proofs.Leading.{shut_not_led}
use Rattle.route_plan.proofs.route.NetSearch.stated_route_past.Goals as goal

pub returns-in-Shut-clause-finds : goal.returns-in-Shut-clause-finds
returns-in-Shut-clause-finds g c =
    shut_not_led c.args.self.now c.in-Shut.reach
    (subst (λ (f : Routed). FindsStated c.args.self.now f) c.in-Shut.is c.in_ok-route.ensures.finds)
