use Rattle.std.proofs.Common.{drop}
use Rattle.pcb_islands.specs.Islands.{AreIslands}
use Rattle.plane_stubs.specs.inner.Holding.{IsHeld, LeadsPins}
use Rattle.plane_stubs.specs.inner.Landings.{AreLandings}
use Rattle.plane_stubs.specs.inner.Sites.{on_site}
use Rattle.plane_stubs.proofs.site.Site.try_pins.Given as goal

abbrev pub invariant-loop-pin : goal.invariant-loop-pin
invariant-loop-pin l = record {
  held : IsHeld l.self l.held;
  found : AreIslands l.self.d l.held.tiles.items l.at.net l.found;
  landings : AreLandings (on_site l.self l.held.tiles.items) l.at.net l.at.rows;
  leads : LeadsPins (on_site l.self l.fn.held.tiles.items) l.at.net l.pins l.held.tiles.items
      (drop l.pin-index l.pins);
}
