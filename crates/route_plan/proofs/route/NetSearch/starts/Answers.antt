use Rattle.std.proofs.Common.{subst}
use Rattle.std.specs.Prelude.{IfOk}
use Rattle.cut_certificate.specs.Cuts.{AreStarts}
use Rattle.route_plan.specs.Searches.{NetSearchOf}
use Rattle.route_plan.proofs.route.NetSearch.starts.Goals as goal

pub returns : goal.returns
returns g c =
    subst (λ (y : NetSearchOf). IfOk c.starts_of.result (AreStarts y.on.d y.on.lat y.on.items y.island)) c.self.view_is
    c.starts_of.ensures
