use Rattle.std.proofs.Common.{ℕ, ◌+◌, ◌*◌, ◌≤◌, ◌^◌, ap₂, arith}
use Rattle.route_lattice.specs.Mesh.{node_count}
use Rattle.route_lattice.proofs.Steps.{size}
use Rattle.route_lattice.proofs.Rooms.{node_fits}
use Rattle.route_lattice.proofs.mesh.Lattice.node.Goals as goal

pub overflow_mul-result : goal.overflow_mul-result
overflow_mul-result c =
    let few : node_count c.args.self.now ≤ 2 ^ 24 = omega (arith, c.count.ensures.nodes, c.count.ensures.few) in
    let fits = node_fits c.args.self.now _ _ c.args.level c.args.row c.args.column
    (size _ _ _ c.len-width.ensures c.xs.ensures) (size _ _ _ c.len-height.ensures c.ys.ensures) few c.requires.level
    c.requires.row c.requires.column in
    omega (arith, fits.0, fits.1)

pub overflow_add-result : goal.overflow_add-result
overflow_add-result c =
    let few : node_count c.args.self.now ≤ 2 ^ 24 = omega (arith, c.count.ensures.nodes, c.count.ensures.few) in
    let fits = node_fits c.args.self.now _ _ c.args.level c.args.row c.args.column
    (size _ _ _ c.len-width.ensures c.xs.ensures) (size _ _ _ c.len-height.ensures c.ys.ensures) few c.requires.level
    c.requires.row c.requires.column in
    omega (arith, fits.0, fits.1)

pub overflow_mul-result-2 : goal.overflow_mul-result-2
overflow_mul-result-2 c =
    let few : node_count c.args.self.now ≤ 2 ^ 24 = omega (arith, c.count.ensures.nodes, c.count.ensures.few) in
    let fits = node_fits c.args.self.now _ _ c.args.level c.args.row c.args.column
    (size _ _ _ c.len-width.ensures c.xs.ensures) (size _ _ _ c.len-height.ensures c.ys.ensures) few c.requires.level
    c.requires.row c.requires.column in
    omega (arith, fits.0, fits.1)

pub overflow_add-result-2 : goal.overflow_add-result-2
overflow_add-result-2 c =
    let few : node_count c.args.self.now ≤ 2 ^ 24 = omega (arith, c.count.ensures.nodes, c.count.ensures.few) in
    let fits = node_fits c.args.self.now _ _ c.args.level c.args.row c.args.column
    (size _ _ _ c.len-width.ensures c.xs.ensures) (size _ _ _ c.len-height.ensures c.ys.ensures) few c.requires.level
    c.requires.row c.requires.column in
    omega (arith, fits.0, fits.1)

pub overflow_cast-result : goal.overflow_cast-result
overflow_cast-result c =
    let few : node_count c.args.self.now ≤ 2 ^ 24 = omega (arith, c.count.ensures.nodes, c.count.ensures.few) in
    let fits = node_fits c.args.self.now _ _ c.args.level c.args.row c.args.column
    (size _ _ _ c.len-width.ensures c.xs.ensures) (size _ _ _ c.len-height.ensures c.ys.ensures) few c.requires.level
    c.requires.row c.requires.column in
    omega (arith, fits.0, fits.1)

pub returns-clause-value : goal.returns-clause-value
returns-clause-value c =
    ap₂ (λ (w h : ℕ). (c.args.level * h + c.args.row) * w + c.args.column)
    (size _ _ _ c.len-width.ensures c.xs.ensures) (size _ _ _ c.len-height.ensures c.ys.ensures)
