use Rattle.route_lattice.proofs.Steps.{size, some_width, some_height, column_there, row_there}
use Rattle.route_lattice.proofs.mesh.Lattice.node_on.Goals as goal

pub nonzero_rem-place : goal.nonzero_rem-place
nonzero_rem-place c =
    some_height c.args.self.now c.args.node _ _ (size _ _ _ c.len-width.ensures c.xs.ensures)
    (size _ _ _ c.len.ensures c.ys.ensures) c.requires.node

pub nonzero_rem-place-2 : goal.nonzero_rem-place-2
nonzero_rem-place-2 c =
    some_width c.args.self.now c.args.node _ _ (size _ _ _ c.len-width.ensures c.xs.ensures)
    (size _ _ _ c.len.ensures c.ys.ensures) c.requires.node

pub node-requires-clause-level : goal.node-requires-clause-level
node-requires-clause-level c = c.requires.level

pub node-requires-clause-row : goal.node-requires-clause-row
node-requires-clause-row c =
    row_there c.args.self.now c.args.node _ _ (size _ _ _ c.len-width.ensures c.xs.ensures)
    (size _ _ _ c.len.ensures c.ys.ensures) c.requires.node

pub node-requires-clause-column : goal.node-requires-clause-column
node-requires-clause-column c =
    column_there c.args.self.now c.args.node _ _ (size _ _ _ c.len-width.ensures c.xs.ensures)
    (size _ _ _ c.len.ensures c.ys.ensures) c.requires.node
