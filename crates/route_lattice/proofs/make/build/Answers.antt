use Rattle.std.proofs.Common.{◌≡◌, refl, arith}
use Rattle.route_lattice.specs.Mesh.{node_count}
use Rattle.route_lattice.specs.Parts.{mesh_of}
use Rattle.route_lattice.proofs.make.build.Goals as goal

pub lattice_on-requires-clause-axes : goal.lattice_on-requires-clause-axes
lattice_on-requires-clause-axes c = c.in_ok-axes.ensures.axes

pub lattice_on-requires-clause-counted : goal.lattice_on-requires-clause-counted
lattice_on-requires-clause-counted c =
    c.node_total-count.ensures c.args.p.now c.args.grid refl c.in_ok-axes.ensures.axes

pub returns : goal.returns
returns c =
    let p = c.args.p.now in let grid = c.args.grid in
    let count : c.node_total-count.result ≡ node_count (mesh_of p grid) =
    c.node_total-count.ensures p grid refl c.in_ok-axes.ensures.axes in
    (c.in_ok-lattice_on.ensures, omega (arith, count))
