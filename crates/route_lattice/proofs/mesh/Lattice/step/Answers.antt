use Rattle.std.proofs.Common.{arith}
use Rattle.route_lattice.proofs.Steps.{size, mod_le, some_width, some_height, column_short, row_short, above_short}
use Rattle.route_lattice.proofs.Steps.{below_there, right_step, right_none, left_step, left_none, above_step}
use Rattle.route_lattice.proofs.Steps.{above_none, below_step, below_none}
use Rattle.route_lattice.proofs.mesh.Lattice.step.Goals as goal

pub nonzero_rem-i : goal.nonzero_rem-i
nonzero_rem-i c =
    some_width c.args.self.now c.args.node _ _ (size _ _ _ c.len-width.ensures c.xs.ensures)
    (size _ _ _ c.len-height.ensures c.ys.ensures) c.requires.node

pub nonzero_div-j : goal.nonzero_div-j
nonzero_div-j c =
    some_width c.args.self.now c.args.node _ _ (size _ _ _ c.len-width.ensures c.xs.ensures)
    (size _ _ _ c.len-height.ensures c.ys.ensures) c.requires.node

pub nonzero_rem-j : goal.nonzero_rem-j
nonzero_rem-j c =
    some_height c.args.self.now c.args.node _ _ (size _ _ _ c.len-width.ensures c.xs.ensures)
    (size _ _ _ c.len-height.ensures c.ys.ensures) c.requires.node

pub overflow_add-i : goal.overflow_add-i
overflow_add-i c =
    let k = column_short c.args.self.now c.args.node _ _ (size _ _ _ c.len-width.ensures c.xs.ensures)
    (size _ _ _ c.len-height.ensures c.ys.ensures) c.requires.node
    (omega (arith, c.count.ensures.nodes, c.count.ensures.few)) in
    omega (arith, k)

pub overflow_add-result : goal.overflow_add-result
overflow_add-result c = omega (arith, c.count.ensures.nodes, c.count.ensures.few, c.requires.node)

pub overflow_sub-result : goal.overflow_sub-result
overflow_sub-result c = omega (arith, c.if-i-gt0.true, mod_le c.args.node c.len-width.result)

pub overflow_add-j : goal.overflow_add-j
overflow_add-j c =
    let k = row_short c.args.self.now c.args.node _ _ (size _ _ _ c.len-width.ensures c.xs.ensures)
    (size _ _ _ c.len-height.ensures c.ys.ensures) c.requires.node
    (omega (arith, c.count.ensures.nodes, c.count.ensures.few)) in
    omega (arith, k)

pub overflow_add-result-then-j-height : goal.overflow_add-result-then-j-height
overflow_add-result-then-j-height c =
    let k = above_short c.args.self.now c.args.node _ _ (size _ _ _ c.len-width.ensures c.xs.ensures)
    (size _ _ _ c.len-height.ensures c.ys.ensures) c.requires.node
    (omega (arith, c.count.ensures.nodes, c.count.ensures.few))
    c.if-j-height.true in omega (arith, k)

pub overflow_cast-result : goal.overflow_cast-result
overflow_cast-result c =
    let k = above_short c.args.self.now c.args.node _ _ (size _ _ _ c.len-width.ensures c.xs.ensures)
    (size _ _ _ c.len-height.ensures c.ys.ensures) c.requires.node
    (omega (arith, c.count.ensures.nodes, c.count.ensures.few))
    c.if-j-height.true in omega (arith, k)

pub overflow_sub-result-then-j-gt0 : goal.overflow_sub-result-then-j-gt0
overflow_sub-result-then-j-gt0 c =
    below_there c.args.self.now c.args.node _ _ (size _ _ _ c.len-width.ensures c.xs.ensures)
    (size _ _ _ c.len-height.ensures c.ys.ensures) c.requires.node c.if-j-gt0.true

pub overflow_cast-result-then-j-gt0 : goal.overflow_cast-result-then-j-gt0
overflow_cast-result-then-j-gt0 c = omega (arith, c.count.ensures.nodes, c.count.ensures.few, c.requires.node)

pub returns-then-i-width : goal.returns-then-i-width
returns-then-i-width c =
    right_step c.args.self.now c.args.node _ _ c.args.dir
    (size _ _ _ c.len-width.ensures c.xs.ensures) (size _ _ _ c.len-height.ensures c.ys.ensures)
    c.if-dir-eq0.true c.if-i-width.true

pub returns-else-i-width : goal.returns-else-i-width
returns-else-i-width c =
    right_none c.args.self.now c.args.node _ _ c.args.dir
    (size _ _ _ c.len-width.ensures c.xs.ensures) (size _ _ _ c.len-height.ensures c.ys.ensures)
    c.if-dir-eq0.true c.if-i-width.false

pub returns-then-i-gt0 : goal.returns-then-i-gt0
returns-then-i-gt0 c =
    left_step c.args.self.now c.args.node _ _ c.args.dir
    (size _ _ _ c.len-width.ensures c.xs.ensures) (size _ _ _ c.len-height.ensures c.ys.ensures)
    c.if-dir-eq1.true c.if-i-gt0.true

pub returns-else-i-gt0 : goal.returns-else-i-gt0
returns-else-i-gt0 c =
    left_none c.args.self.now c.args.node _ _ c.args.dir
    (size _ _ _ c.len-width.ensures c.xs.ensures) (size _ _ _ c.len-height.ensures c.ys.ensures)
    c.if-dir-eq1.true c.if-i-gt0.false

pub returns-then-j-height : goal.returns-then-j-height
returns-then-j-height c =
    above_step c.args.self.now c.args.node _ _ c.args.dir
    (size _ _ _ c.len-width.ensures c.xs.ensures) (size _ _ _ c.len-height.ensures c.ys.ensures)
    c.if-dir-eq2.true c.if-j-height.true

pub returns-else-j-height : goal.returns-else-j-height
returns-else-j-height c =
    above_none c.args.self.now c.args.node _ _ c.args.dir
    (size _ _ _ c.len-width.ensures c.xs.ensures) (size _ _ _ c.len-height.ensures c.ys.ensures)
    c.if-dir-eq2.true c.if-j-height.false

pub returns-then-j-gt0 : goal.returns-then-j-gt0
returns-then-j-gt0 c =
    below_step c.args.self.now c.args.node _ _ c.args.dir
    (size _ _ _ c.len-width.ensures c.xs.ensures) (size _ _ _ c.len-height.ensures c.ys.ensures)
    (omega (arith, c.requires.dir, c.if-dir-eq0.false, c.if-dir-eq1.false, c.if-dir-eq2.false)) c.if-j-gt0.true

pub returns-else-j-gt0 : goal.returns-else-j-gt0
returns-else-j-gt0 c =
    below_none c.args.self.now c.args.node _ _ c.args.dir
    (size _ _ _ c.len-width.ensures c.xs.ensures) (size _ _ _ c.len-height.ensures c.ys.ensures)
    (omega (arith, c.requires.dir, c.if-dir-eq0.false, c.if-dir-eq1.false, c.if-dir-eq2.false)) c.if-j-gt0.false
