use Rattle.route_lattice.proofs.Leading.{graph_sound}
use Rattle.route_lattice.proofs.legal.legal_graph_sound.Goals as goal

pub returns : goal.returns
returns c = graph_sound
