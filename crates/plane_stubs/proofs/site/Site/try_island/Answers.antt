use Rattle.std.proofs.Common.{◌<◌, ◌∷◌, [], Option, subst}
use Rattle.std.specs.Prelude.{MatchOption}
use Rattle.std.proofs.lemmas.List.Elements.{All-cons, All-nil}
use Rattle.route_lattice.specs.declared.moves.Walk.{Walk}
use Rattle.route_lattice.specs.Mesh.{node_count}
use Rattle.plane_joins.specs.Stubs.{HasNoStub, IsLeastStub}
use Rattle.plane_stubs.proofs.Walks.{walk_of}
use Rattle.pcb_model.specs.Sound.{IsSound}
use Rattle.plane_stubs.specs.inner.Sites.{SiteOf, on_site}
use Rattle.plane_stubs.proofs.Standing.{held_serves}
use Rattle.plane_stubs.proofs.site.Site.try_island.Goals as goal

pub stub_of-requires-clause-serves : goal.stub_of-requires-clause-serves
stub_of-requires-clause-serves c =
    held_serves c.args.self.now (subst (λ (s : SiteOf). IsSound s.d) c.self.view_is c.self.invariant.0.sound)
    c.args.held.now c.requires.held

pub lay_walk-requires-clause-walk : goal.lay_walk-requires-clause-walk
lay_walk-requires-clause-walk c =
    let s = c.args.self.now in
    let g = on_site s c.args.held.now.tiles.items in
    let island = c.args.island.now in
    let w = c.in-Some.walk in
    let h : IsLeastStub g island w =
    subst (λ (o : Option Walk). MatchOption o (HasNoStub g island) (IsLeastStub g island)) c.in-Some.is
    c.in_ok-walk.ensures in
    c.net_walks.ensures.walk s.d s.lat g.items island.net s.via_cost (h.leads.from ∷ []) (h.leads.to ∷ []) w
    (All-cons (λ v. v < node_count s.lat) h.leads.from [] h.leads.starts.there (All-nil (λ v. v < node_count s.lat)))
    (walk_of g island w h.leads)
