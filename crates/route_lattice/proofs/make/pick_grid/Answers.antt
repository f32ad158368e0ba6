use Rattle.std.proofs.Common.{◌≡◌, ◌-◌, ◌+◌, suc, arith}
use Rattle.route_lattice.proofs.Grids.{left_at_first, left_next, left_found, left_none, grid_some, grid_small}
use Rattle.route_lattice.proofs.make.pick_grid.Goals as goal

pub loop-init : goal.loop-init
loop-init c = left_at_first c.args.p.now

pub nodes_at-requires-clause-some : goal.nodes_at-requires-clause-some
nodes_at-requires-clause-some c = grid_some _ c.loop.grid c.loop.invariant.sized

pub nodes_at-requires-clause-fine : goal.nodes_at-requires-clause-fine
nodes_at-requires-clause-fine c = let a = grid_small _ c.loop.grid c.loop.invariant.sized in omega (arith, a)

pub returns-then-branch-le-DEFAULT_NODES-clause-value : goal.returns-then-branch-le-DEFAULT_NODES-clause-value
returns-then-branch-le-DEFAULT_NODES-clause-value c =
    let e : 12 - c.loop.counter ≡ suc (12 - (c.loop.counter + 1)) = omega arith in
    left_found c.args.p.now _ _ c.loop.grid e c.loop.invariant c.in_ok-nodes_at.field-0 c.in_ok-nodes_at.ensures
    (omega arith)

pub returns-then-branch-le-DEFAULT_NODES-clause-some : goal.returns-then-branch-le-DEFAULT_NODES-clause-some
returns-then-branch-le-DEFAULT_NODES-clause-some c = grid_some _ c.loop.grid c.loop.invariant.sized

pub returns-then-branch-le-DEFAULT_NODES-clause-fine : goal.returns-then-branch-le-DEFAULT_NODES-clause-fine
returns-then-branch-le-DEFAULT_NODES-clause-fine c =
    let a = grid_small _ c.loop.grid c.loop.invariant.sized in omega (arith, a)

pub overflow_mul-grid : goal.overflow_mul-grid
overflow_mul-grid c = let a = grid_small _ c.loop.grid c.loop.invariant.sized in omega (arith, a)

pub loop-preserved : goal.loop-preserved
loop-preserved c =
    let e : 12 - c.loop.counter ≡ suc (12 - (c.loop.counter + 1)) = omega arith in
    left_next c.args.p.now _ _ c.loop.grid e c.loop.invariant c.in_ok-nodes_at.field-0 c.in_ok-nodes_at.ensures
    (omega arith)

pub returns-clause-value : goal.returns-clause-value
returns-clause-value c = left_none c.args.p.now _ c.loop.grid (omega arith) c.loop.invariant

pub returns-clause-some : goal.returns-clause-some
returns-clause-some c = grid_some _ c.loop.grid c.loop.invariant.sized

pub returns-clause-fine : goal.returns-clause-fine
returns-clause-fine c = let a = grid_small _ c.loop.grid c.loop.invariant.sized in omega (arith, a)
