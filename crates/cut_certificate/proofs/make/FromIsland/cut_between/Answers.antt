use Rattle.std.proofs.Common.{◌<◌, All, sym, subst}
use Rattle.route_lattice.specs.Mesh.{Mesh, node_count}
use Rattle.route_lattice.specs.declared.moves.Walk.{Walk}
use Rattle.route_lattice.specs.Walks.{IsWalk, NoneLeads, IsReach}
use Rattle.route_lattice.specs.Ways.{way, way_count}
use Rattle.route_lattice.specs.Legal.{CanMove, legal_graph}
use Rattle.cut_certificate.specs.Border.{AreBlocks}
use Rattle.cut_certificate.specs.inner.Listing.{Closes}
use Rattle.cut_certificate.specs.Cuts.{IsShutBy}
use Rattle.cut_certificate.proofs.Closing.{reach_in_range}
use Rattle.cut_certificate.proofs.Making.{first_of, starts_in_lattice, leads_on, cut_made}
use Rattle.cut_certificate.proofs.make.FromIsland.cut_between.Goals as goal

pub invariant_of-shuts : goal.invariant_of-shuts
invariant_of-shuts g c =
    let moves = c.moves-moves.result in
    let ready = c.moves-moves.ensures.ready in (
      ready,
      c.legal_graph_sound.ensures moves.d.now moves.lat.now (g.C.Copper.items moves.c.now) moves.net
          moves.via_cost ready.0,
    )

pub close-requires-clause-same : goal.close-requires-clause-same
close-requires-clause-same g c =
    let e = c.moves-moves.ensures in
    rw (e.d, e.lat, e.items, e.net, e.via_cost) c.requires.legal

pub close-requires-clause-starts : goal.close-requires-clause-starts
close-requires-clause-starts g c =
    let on = c.args.self.now.on in
    subst (λ (m : Mesh). All (λ v. v < node_count m) c.args.starts.now) (sym c.moves-moves.ensures.lat)
    (starts_in_lattice on.d on.lat on.items c.args.self.now.island.now c.args.starts.now c.requires.starts)

pub returns-in-None : goal.returns-in-None
returns-in-None g c =
    let on = c.args.self.now.on in
    let island = c.args.self.now.island.now in
    let graph = legal_graph on.d on.lat on.items island.net c.args.self.now.via_cost in
    let e = c.moves-moves.ensures in
    let says : Closes graph (IsShutBy on.d on.lat on.items island.net) c.args.starts.now c.args.goals.now
    c.in_ok-close.field-0 = rw (e.d, e.lat, e.items, e.net, e.via_cost) at c.in_ok-close.ensures in
    let h : (w : Walk) × IsWalk graph c.args.starts.now c.args.goals.now w =
    subst (Closes graph (IsShutBy on.d on.lat on.items island.net) c.args.starts.now c.args.goals.now) c.in-None.is
    says in
    λ others k. leads_on on.d on.lat on.items c.args.self.now.via_cost island others c.args.starts.now
    c.args.goals.now c.requires.starts k h.0 h.1

pub returns-in-Some : goal.returns-in-Some
returns-in-Some g c =
    let on = c.args.self.now.on in
    let island = c.args.self.now.island.now in
    let net = island.net in
    let via_cost = c.args.self.now.via_cost in
    let graph = legal_graph on.d on.lat on.items net via_cost in
    let e = c.moves-moves.ensures in
    let says : Closes graph (IsShutBy on.d on.lat on.items net) c.args.starts.now c.args.goals.now
    c.in_ok-close.field-0 = rw (e.d, e.lat, e.items, e.net, e.via_cost) at c.in_ok-close.ensures in
    let b = c.in-Some.field-0 in
    let ready = c.moves-moves.ensures.ready in
    let can : CanMove on.d on.lat net via_cost = rw (e.d, e.lat, e.net, e.via_cost) at ready.0 in
    let h : NoneLeads graph c.args.starts.now c.args.goals.now
    × IsReach graph c.args.starts.now b.reach.nodes
    × AreBlocks (way on.d on.lat net) (way_count on.d on.lat net) (IsShutBy on.d on.lat on.items net) b.reach.nodes
    b.blocked =
    subst (Closes graph (IsShutBy on.d on.lat on.items net) c.args.starts.now c.args.goals.now) c.in-Some.is says in
    λ others k. cut_made on.d on.lat on.items via_cost island others c.args.starts.now c.args.goals.now
    c.requires.starts k b c.first_pin.result
    (first_of island.pins c.first_pin.result c.args.self.now.pins c.first_pin.ensures) h
    (reach_in_range graph c.args.starts.now b.reach.nodes
    (c.legal_graph_sound.ensures on.d on.lat on.items net via_cost can)
    (starts_in_lattice on.d on.lat on.items island c.args.starts.now c.requires.starts) h.1)
