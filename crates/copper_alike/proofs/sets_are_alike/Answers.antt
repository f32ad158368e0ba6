use Rattle.copper_alike.proofs.Places.{set_at}
use Rattle.copper_alike.proofs.Sets.{cut_set}
use Rattle.copper_alike.proofs.sets_are_alike.Goals as goal

pub returns-clause-alike : goal.returns-clause-alike
returns-clause-alike c = λ d m net xs ys old found k s t nodes sound xs_rise ys_rise p q same was is s_at t_at set.
    set_at c.pairs_are_symmetric.ensures.touch c.pairs_are_symmetric.ensures.agree d m net sound xs ys xs_rise
    ys_rise p
    q same old found was is k s t s_at t_at nodes set

pub returns-clause-cuts : goal.returns-clause-cuts
returns-clause-cuts c = cut_set
