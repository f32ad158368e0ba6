use Rattle.searcher_pool.proofs.Entries.{entry_least}
use Rattle.searcher_pool.proofs.laws.passes_are_least.Goals as goal

pub returns : goal.returns
returns c = λ p old new logs passed n o first after late there. entry_least p old new logs passed n o first after late
    there
