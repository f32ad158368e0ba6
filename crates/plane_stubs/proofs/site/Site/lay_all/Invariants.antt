use Rattle.std.proofs.Common.{drop}
use Rattle.plane_stubs.specs.inner.Holding.{IsHeld, LeadsLaid}
use Rattle.plane_stubs.proofs.site.Site.lay_all.Given as goal

abbrev pub invariant-loop-metal : goal.invariant-loop-metal
invariant-loop-metal l = record {
  held : IsHeld l.self l.held;
  leads : LeadsLaid l.self.d l.net l.fn.held.tiles.items l.metals l.held.tiles.items (drop l.metal-index l.metals);
}
