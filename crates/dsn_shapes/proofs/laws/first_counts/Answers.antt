use Rattle.dsn_shapes.proofs.First.{first_counts}
use Rattle.dsn_shapes.proofs.laws.first_counts.Goals as goal

pub returns : goal.returns
returns c = first_counts
