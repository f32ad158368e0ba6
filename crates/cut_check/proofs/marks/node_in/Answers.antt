use Rattle.std.proofs.Common.{ℕ, ◌+◌, ◌*◌, ◌≤◌, ◌<◌, ◌^◌, ap₂, arith, subst, sym}
use Rattle.route_lattice.specs.Mesh.{node_count}
use Rattle.route_lattice.proofs.Steps.{size}
use Rattle.route_lattice.proofs.Rooms.{node_fits}
use Rattle.cut_check.proofs.Stretching.{there_in}
use Rattle.cut_check.proofs.marks.node_in.Goals as goal

pub overflow_mul-result : goal.overflow_mul-result
overflow_mul-result c =
    let few : node_count c.args.lat.now ≤ 2 ^ 24 = omega (arith, c.count.ensures.nodes, c.count.ensures.few) in
    let on = c.requires.on.1 in
    let there = on.there in
    let fits = node_fits c.args.lat.now _ _ c.args.s.level c.args.s.row c.args.column
    (size _ _ _ c.len-width.ensures c.xs.ensures) (size _ _ _ c.len-height.ensures c.ys.ensures) few on.level_there
    on.row_there (omega (arith, c.requires.column, there)) in
    omega (arith, fits.0, fits.1)

pub overflow_add-result : goal.overflow_add-result
overflow_add-result c =
    let few : node_count c.args.lat.now ≤ 2 ^ 24 = omega (arith, c.count.ensures.nodes, c.count.ensures.few) in
    let on = c.requires.on.1 in
    let there = on.there in
    let fits = node_fits c.args.lat.now _ _ c.args.s.level c.args.s.row c.args.column
    (size _ _ _ c.len-width.ensures c.xs.ensures) (size _ _ _ c.len-height.ensures c.ys.ensures) few on.level_there
    on.row_there (omega (arith, c.requires.column, there)) in
    omega (arith, fits.0, fits.1)

pub overflow_mul-result-2 : goal.overflow_mul-result-2
overflow_mul-result-2 c =
    let few : node_count c.args.lat.now ≤ 2 ^ 24 = omega (arith, c.count.ensures.nodes, c.count.ensures.few) in
    let on = c.requires.on.1 in
    let there = on.there in
    let fits = node_fits c.args.lat.now _ _ c.args.s.level c.args.s.row c.args.column
    (size _ _ _ c.len-width.ensures c.xs.ensures) (size _ _ _ c.len-height.ensures c.ys.ensures) few on.level_there
    on.row_there (omega (arith, c.requires.column, there)) in
    omega (arith, fits.0, fits.1)

pub overflow_add-result-2 : goal.overflow_add-result-2
overflow_add-result-2 c =
    let few : node_count c.args.lat.now ≤ 2 ^ 24 = omega (arith, c.count.ensures.nodes, c.count.ensures.few) in
    let on = c.requires.on.1 in
    let there = on.there in
    let fits = node_fits c.args.lat.now _ _ c.args.s.level c.args.s.row c.args.column
    (size _ _ _ c.len-width.ensures c.xs.ensures) (size _ _ _ c.len-height.ensures c.ys.ensures) few on.level_there
    on.row_there (omega (arith, c.requires.column, there)) in
    omega (arith, fits.0, fits.1)

pub returns-clause-value : goal.returns-clause-value
returns-clause-value c =
    ap₂ (λ (w h : ℕ). (c.args.s.level * h + c.args.s.row) * w + c.args.column)
    (size _ _ _ c.len-width.ensures c.xs.ensures) (size _ _ _ c.len-height.ensures c.ys.ensures)

pub returns-clause-there : goal.returns-clause-there
returns-clause-there c =
    subst (λ (n : ℕ). n < node_count c.args.lat.now)
    (sym (ap₂ (λ (w h : ℕ). (c.args.s.level * h + c.args.s.row) * w + c.args.column)
    (size _ _ _ c.len-width.ensures c.xs.ensures) (size _ _ _ c.len-height.ensures c.ys.ensures)))
    (there_in c.args.lat.now c.args.s c.args.column c.requires.on c.requires.column)

pub returns-clause-small : goal.returns-clause-small
returns-clause-small c =
    let few : node_count c.args.lat.now ≤ 2 ^ 24 = omega (arith, c.count.ensures.nodes, c.count.ensures.few) in
    let on = c.requires.on.1 in
    let there = on.there in
    let fits = node_fits c.args.lat.now _ _ c.args.s.level c.args.s.row c.args.column
    (size _ _ _ c.len-width.ensures c.xs.ensures) (size _ _ _ c.len-height.ensures c.ys.ensures) few on.level_there
    on.row_there (omega (arith, c.requires.column, there)) in
    fits.0
