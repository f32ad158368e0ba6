use Rattle.std.proofs.Common.{◌<◌, All, sym, subst}
use Rattle.route_lattice.specs.Mesh.{Mesh, node_count}
use Rattle.cut_certificate.proofs.check.CutNodes.has_border.Goals as goal

pub invariant_of-on : goal.invariant_of-on
invariant_of-on g c =
    let moves = c.moves-moves.result in
    let ready = c.moves-moves.ensures.ready in (
      ready,
      c.legal_graph_sound.ensures moves.d.now moves.lat.now (g.C.Copper.items moves.c.now) moves.net
          moves.via_cost ready.0,
    )

pub are_blocks-requires-clause-there : goal.are_blocks-requires-clause-there
are_blocks-requires-clause-there g c =
    subst (λ (m : Mesh). All (λ v. v < node_count m) c.args.self.now.nodes.now) (sym c.moves-moves.ensures.lat)
    c.args.self.now.there

pub returns : goal.returns
returns g c =
    let e = c.moves-moves.ensures in
    rw (e.d, e.lat, e.items, e.net) at c.are_blocks.ensures
