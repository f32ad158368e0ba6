use Rattle.searcher_pool.proofs.Entries.{full_spent}
use Rattle.searcher_pool.proofs.laws.full_passes_are_spent.Goals as goal

pub returns : goal.returns
returns c = λ p old new logs passed met. full_spent p old new logs passed met
