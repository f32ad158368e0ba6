use Rattle.route_lattice.proofs.Outlines.{outline_least}
use Rattle.route_lattice.proofs.laws.outline_is_least.Goals as goal

pub returns : goal.returns
returns c = outline_least
