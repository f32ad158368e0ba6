use Rattle.std.proofs.Common.{drop}
use Rattle.plane_stubs.specs.inner.Adding.{LeadsNets}
use Rattle.plane_stubs.specs.inner.Holding.{IsHeld}
use Rattle.plane_stubs.specs.inner.Sites.{on_site}
use Rattle.plane_stubs.proofs.site.Site.try_nets.Given as goal

abbrev pub invariant-loop-net : goal.invariant-loop-net
invariant-loop-net l = record {
  held : IsHeld l.self l.held;
  leads : LeadsNets (on_site l.self l.fn.held.tiles.items) l.nets l.held.tiles.items (drop l.net-index l.nets);
}
