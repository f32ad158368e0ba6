use Rattle.std.proofs.Common.{◌∷◌, [], subst}
use Rattle.route_lattice.specs.Mesh.{node_count}
use Rattle.route_lattice.specs.Walks.{Answers}
use Rattle.plane_joins.specs.inner.Graph.{stub_graph}
use Rattle.plane_stubs.proofs.Ending.{ends_landing}
use Rattle.plane_stubs.proofs.stub.walk_to_rib.Goals as goal

pub land-requires-clause-ends : goal.land-requires-clause-ends
land-requires-clause-ends c =
    let n = c.args.moves.now.on in
    let starts = c.args.starts.now in
    ends_landing n.on n.net starts c.in-Walk.w c.are_sound.ensures.moves c.requires.starts
    (subst (Answers (stub_graph n.on n.net) starts (node_count n.on.lat ∷ [])) c.in-Walk.is c.in_ok-w.ensures)
