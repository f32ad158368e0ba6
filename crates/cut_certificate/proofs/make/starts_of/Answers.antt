use Rattle.std.proofs.Common.{ℕ, ◌<◌, List, sym, subst, All}
use Rattle.std.proofs.lemmas.Result.{IfOk-weaker}
use Rattle.route_lattice.specs.Mesh.{node_count}
use Rattle.route_lattice.specs.Anchors.{AreAnchorsAmong}
use Rattle.route_lattice.specs.Legal.{IsLegalNode, AreThoseOf}
use Rattle.cut_certificate.proofs.Making.{anchors_in_lattice, starts_exact}
use Rattle.cut_certificate.proofs.make.starts_of.Goals as goal

pub legal_among-requires-clause-nodes : goal.legal_among-requires-clause-nodes
legal_among-requires-clause-nodes g c =
    subst (All (λ v. v < node_count c.args.lat.now)) (sym c.as_slice-2.ensures)
    (anchors_in_lattice c.args.d.now c.args.lat.now (g.C.Copper.items c.args.c.now) c.as_slice.result.now
    c.in_ok-anchors.anchors c.in_ok-anchors.ensures)

pub returns : goal.returns
returns g c = IfOk-weaker _ _ _ (λ starts are.
    starts_exact c.args.d.now c.args.lat.now (g.C.Copper.items c.args.c.now) c.args.island.now c.in_ok-anchors.anchors
    starts
    (subst (λ (ids : List ℕ). AreAnchorsAmong c.args.d.now c.args.lat.now (g.C.Copper.items c.args.c.now) ids
    c.in_ok-anchors.anchors) c.as_slice.ensures c.in_ok-anchors.ensures)
    (subst (λ (nodes : List ℕ).
    AreThoseOf (IsLegalNode c.args.d.now c.args.lat.now (g.C.Copper.items c.args.c.now) c.args.island.now.net)
    nodes starts) c.as_slice-2.ensures are)) c.legal_among.ensures
