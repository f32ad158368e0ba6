use Rattle.std.proofs.Common.{subst}
use Rattle.std.specs.Prelude.{IfOk}
use Rattle.cut_certificate.specs.Cuts.{AreGoals}
use Rattle.route_plan.specs.Searches.{NetSearchOf}
use Rattle.route_plan.proofs.route.NetSearch.goals.Goals as goal

pub returns : goal.returns
returns g c =
    subst (λ (y : NetSearchOf). IfOk c.goals_of.result (AreGoals y.on.d y.on.lat y.on.items y.others)) c.self.view_is
    c.goals_of.ensures
