use Rattle.std.proofs.Common.{◌≡◌, ℕ, List, refl, sym, ◌∙◌, subst}
use Rattle.std.proofs.lemmas.List.{drop_all}
use Rattle.pcb_model.specs.declared.item.Item.{Item}
use Rattle.pcb_islands.specs.Islands.{AreIslands, pins_of}
use Rattle.plane_joins.specs.Stubs.{TriesPins, with_items}
use Rattle.plane_joins.proofs.Places.{copied}
use Rattle.plane_stubs.specs.inner.Holding.{IsHeld}
use Rattle.plane_stubs.specs.inner.Sites.{SiteOf, on_site}
use Rattle.plane_stubs.proofs.Standing.{held_serves}
use Rattle.plane_stubs.proofs.Tables.{landings_later, pin_grows}
use Rattle.plane_stubs.proofs.Trying.{leads_pin}
use Rattle.plane_stubs.proofs.site.Site.try_pins.Goals as goal

pub islands-requires-clause-serves : goal.islands-requires-clause-serves
islands-requires-clause-serves c =
    let site = c.self.inside in
    let s : SiteOf = record {
      d = site.d.now;
      lat = site.lat.now;
      via_cost = site.via_cost;
      first = site.first;
      last = site.last;
    } in
    held_serves s c.self.invariant.0.sound c.args.held.now
    (subst (λ (t : SiteOf). IsHeld t c.args.held.now) (sym c.self.view_is) c.requires.held)

pub islands_after-requires-clause-same : goal.islands_after-requires-clause-same
islands_after-requires-clause-same c = λ e.
    subst (λ (xs : List Item). AreIslands c.args.self.now.d xs c.args.at.now.net c.loop-pin.found)
    (sym (c.in_ok-laid.ensures.tries.none e)) c.loop-pin.invariant.found

pub loop-pin-preserved : goal.loop-pin-preserved
loop-pin-preserved c =
    let s = c.args.self.now in
    let net = c.args.at.now.net in
    let g = on_site s c.loop-pin.held.tiles.items in
    let pins = c.pins_in-pins.result.now in
    let after = c.try_pin.new.held.tiles.items in
    let tries = c.in_ok-laid.ensures.tries.tries in
    record {
      held = c.in_ok-laid.ensures.held;
      found = c.in_ok-found-2.ensures;
      landings = landings_later g net c.args.at.now.rows after
          (pin_grows g net _ after c.loop-pin.invariant.held.past_ribs tries) c.loop-pin.invariant.landings;
      leads = leads_pin (on_site s c.args.held.now.tiles.items) net pins c.loop-pin.held.tiles.items after
          c.loop-pin.pin-index _ c.loop-pin-test.true (copied pins c.loop-pin.pin-index _ c.loop-pin-test.true)
          c.loop-pin.invariant.leads tries;
    }

pub returns-clause-tries : goal.returns-clause-tries
returns-clause-tries c =
    let s = c.args.self.now in
    let net = c.args.at.now.net in
    let items = c.loop-pin.held.tiles.items in
    let first = on_site s c.args.held.now.tiles.items in
    let pins = c.pins_in-pins.result.now in
    subst (λ (ps : List ℕ). TriesPins first net ps items)
    (subst (λ (t : SiteOf). pins ≡ pins_of t.d net) c.self.view_is c.pins_in-pins.ensures)
    (c.loop-pin.invariant.leads.on items
    (subst (λ (ps : List ℕ). TriesPins (with_items first items) net ps items)
    (sym (drop_all c.loop-pin.pin-index pins c.loop-pin-test.false)) refl))
