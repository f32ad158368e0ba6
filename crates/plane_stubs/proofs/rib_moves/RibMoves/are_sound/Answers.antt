use Rattle.std.proofs.Common.{subst}
use Rattle.route_lattice.specs.Walks.{IsSound}
use Rattle.plane_joins.specs.Stubs.{RibGround, moves_on}
use Rattle.plane_joins.specs.inner.Graph.{stub_graph}
use Rattle.plane_stubs.specs.inner.Landings.{NetRibs}
use Rattle.plane_joins.proofs.Stubbing.{graph_sound}
use Rattle.plane_stubs.proofs.rib_moves.RibMoves.are_sound.Goals as goal

pub returns-clause-moves : goal.returns-clause-moves
returns-clause-moves c =
    let s = c.self.inside in
    subst (λ (n : NetRibs). IsSound (moves_on n.on n.net)) c.self.view_is
    (c.legal_graph_sound.ensures s.legal.d.now s.legal.lat.now s.legal.c.now.items s.legal.net s.legal.via_cost
    c.self.invariant.0)

pub returns-clause-graph : goal.returns-clause-graph
returns-clause-graph c =
    let s = c.self.inside in
    let g : RibGround = record {
      d = s.legal.d.now;
      lat = s.legal.lat.now;
      via_cost = s.legal.via_cost;
      items = s.legal.c.now.items;
      first = s.first;
      last = s.last;
    } in
    subst (λ (n : NetRibs). IsSound (stub_graph n.on n.net)) c.self.view_is
    (graph_sound g s.legal.net c.self.invariant.0
    (c.legal_graph_sound.ensures s.legal.d.now s.legal.lat.now s.legal.c.now.items s.legal.net s.legal.via_cost
    c.self.invariant.0))
