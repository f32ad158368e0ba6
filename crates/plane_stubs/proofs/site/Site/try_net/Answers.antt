use Rattle.std.proofs.Common.{subst}
use Rattle.pcb_model.specs.Sound.{IsSound}
use Rattle.plane_stubs.specs.inner.Sites.{SiteOf}
use Rattle.plane_stubs.proofs.Standing.{held_serves}
use Rattle.plane_stubs.proofs.site.Site.try_net.Goals as goal

pub landings-requires-clause-serves : goal.landings-requires-clause-serves
landings-requires-clause-serves c =
    held_serves c.args.self.now (subst (λ (s : SiteOf). IsSound s.d) c.self.view_is c.self.invariant.0.sound)
    c.args.held.now c.requires.held
