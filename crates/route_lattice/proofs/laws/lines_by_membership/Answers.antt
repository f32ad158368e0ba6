use Rattle.route_lattice.proofs.Within.{xs_are, ys_are}
use Rattle.route_lattice.proofs.laws.lines_by_membership.Goals as goal

pub returns-clause-across : goal.returns-clause-across
returns-clause-across c = xs_are

pub returns-clause-up : goal.returns-clause-up
returns-clause-up c = ys_are
