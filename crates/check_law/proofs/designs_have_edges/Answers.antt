use Rattle.check_law.proofs.Edges.{edges_of_read}
use Rattle.check_law.proofs.designs_have_edges.Goals as goal

pub returns : goal.returns
returns c = edges_of_read
