use Rattle.std.proofs.Common.{sym, subst}
use Rattle.plane_stubs.specs.inner.Holding.{IsHeld}
use Rattle.plane_stubs.specs.inner.Sites.{SiteOf}
use Rattle.plane_stubs.proofs.Standing.{held_serves}
use Rattle.plane_stubs.proofs.site.Site.islands_after.Goals as goal

pub islands-requires-clause-serves : goal.islands-requires-clause-serves
islands-requires-clause-serves c =
    let site = c.self.inside in
    let s : SiteOf = record {
      d = site.d.now;
      lat = site.lat.now;
      via_cost = site.via_cost;
      first = site.first;
      last = site.last;
    } in
    held_serves s c.self.invariant.0.sound c.args.held.now
    (subst (λ (t : SiteOf). IsHeld t c.args.held.now) (sym c.self.view_is) c.requires.held)
