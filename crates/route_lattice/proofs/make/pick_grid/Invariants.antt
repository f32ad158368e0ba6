use Rattle.std.proofs.Common.{◌-◌}
use Rattle.route_lattice.proofs.Grids.{IsLeft}
use Rattle.route_lattice.proofs.make.pick_grid.Given as goal

abbrev pub invariant-loop : goal.invariant-loop
invariant-loop l = IsLeft l.p (12 - l.counter) l.grid
