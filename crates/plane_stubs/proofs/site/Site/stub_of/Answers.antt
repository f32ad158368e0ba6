use Rattle.std.proofs.Common.{◌≡◌, ℕ, ◌<◌, ◌∷◌, [], All, Option, length, sym, subst}
use Rattle.std.specs.Prelude.{IfOk, MatchOption}
use Rattle.pcb_tiles.specs.Spread.{ServesSpread}
use Rattle.route_lattice.specs.declared.moves.Walk.{Walk}
use Rattle.route_lattice.specs.Mesh.{node_count}
use Rattle.route_lattice.specs.Walks.{IsSound, NoneLeads}
use Rattle.cut_certificate.specs.Cuts.{AreStarts}
use Rattle.std.proofs.lemmas.Result.{IfOk-weaker}
use Rattle.plane_joins.specs.Stubs.{moves_on}
use Rattle.plane_joins.specs.inner.Graph.{stub_graph}
use Rattle.plane_stubs.specs.inner.Landings.{AreLandings, LandsLeast, NetRibs}
use Rattle.plane_stubs.specs.inner.Sites.{SiteOf, on_site}
use Rattle.plane_stubs.proofs.Ending.{starts_below, told_stub}
use Rattle.plane_stubs.proofs.site.Site.stub_of.Goals as goal

pub starts_of-requires-clause-serves : goal.starts_of-requires-clause-serves
starts_of-requires-clause-serves c =
    subst (λ (s : SiteOf). ServesSpread c.args.tiles.now s.d) (sym c.self.view_is) c.requires.serves

pub starts_of-requires-clause-net : goal.starts_of-requires-clause-net
starts_of-requires-clause-net c =
    subst (λ (s : SiteOf). c.args.island.now.net < length s.d.nets) (sym c.self.view_is) c.requires.net

pub walk_to_rib-requires-clause-landings : goal.walk_to_rib-requires-clause-landings
walk_to_rib-requires-clause-landings c =
    subst (λ (n : NetRibs). AreLandings n.on n.net c.args.rows.now) (sym c.moves.ensures) c.requires.landings

pub walk_to_rib-requires-clause-starts : goal.walk_to_rib-requires-clause-starts
walk_to_rib-requires-clause-starts c =
    let items = c.args.tiles.now.items in
    let island = c.args.island.now in
    let starts = c.in_ok-starts.starts in
    let are = subst (λ (t : SiteOf). AreStarts t.d t.lat items island starts) c.self.view_is c.in_ok-starts.ensures in
    subst (λ (n : NetRibs). All (λ v. v < node_count n.on.lat) starts) (sym c.moves.ensures)
    (starts_below (on_site c.args.self.now items) island starts are)

pub returns : goal.returns
returns c =
    let site = c.self.inside in
    let keeps = c.self.invariant.0 in
    let items = c.args.tiles.now.items in
    let island = c.args.island.now in
    let starts = c.in_ok-starts.starts in
    let g = on_site c.args.self.now items in
    let are = subst (λ (t : SiteOf). AreStarts t.d t.lat items island starts) c.self.view_is c.in_ok-starts.ensures in
    let there = subst (λ (s : SiteOf). island.net < length s.d.nets) (sym c.self.view_is) c.requires.net in
    let sound : IsSound (moves_on g island.net) =
    subst (λ (t : SiteOf). IsSound (moves_on (on_site t items) island.net)) c.self.view_is
    (c.legal_graph_sound.ensures site.d.now site.lat.now items island.net site.via_cost (record {
      sound = keeps.sound;
      fits = keeps.fits;
      net_there = there;
      small_cost = keeps.small_cost;
    })) in
    IfOk-weaker _ _ _ (λ o h. told_stub g island starts are sound o h)
    (subst (λ (n : NetRibs). IfOk c.walk_to_rib.result (λ (o : Option Walk). MatchOption o
    (NoneLeads (stub_graph n.on n.net) starts (node_count n.on.lat ∷ [])) (LandsLeast n.on n.net starts)))
    c.moves.ensures c.walk_to_rib.ensures)
