use Rattle.route_lattice.proofs.Within.{node_within}
use Rattle.route_lattice.proofs.laws.nodes_within.Goals as goal

pub returns : goal.returns
returns c = λ d grid node s h. node_within d grid s node
