use Rattle.std.proofs.Common.{List, refl, subst, sym, ℕ}
use Rattle.std.proofs.lemmas.List.{drop_all}
use Rattle.plane_joins.specs.Planned.{TriesNets}
use Rattle.plane_joins.specs.Stubs.{with_items}
use Rattle.plane_joins.proofs.Places.{copied}
use Rattle.plane_stubs.specs.inner.Sites.{on_site}
use Rattle.plane_stubs.proofs.Adding.{leads_net}
use Rattle.plane_stubs.proofs.site.Site.try_nets.Goals as goal

pub loop-net-preserved : goal.loop-net-preserved
loop-net-preserved c =
    let s = c.args.self.now in
    let g = on_site s c.args.held.now.tiles.items in
    record {
      held = c.in_ok-try_net.ensures.held;
      leads = leads_net g c.args.nets.now c.loop-net.held.tiles.items c.try_net.new.held.tiles.items
          c.loop-net.net-index _ c.loop-net-test.true
          (copied c.args.nets.now c.loop-net.net-index _ c.loop-net-test.true)
          c.loop-net.invariant.leads c.in_ok-try_net.ensures.tries;
    }

pub returns-clause-tries : goal.returns-clause-tries
returns-clause-tries c =
    let s = c.args.self.now in
    let items = c.loop-net.held.tiles.items in
    c.loop-net.invariant.leads.on items
    (subst (λ (ns : List ℕ). TriesNets (with_items (on_site s c.args.held.now.tiles.items) items) ns items)
    (sym (drop_all c.loop-net.net-index c.args.nets.now c.loop-net-test.false)) refl)
