use Rattle.path_wire.proofs.Hopping.{wide_walk_of_net, wide_walk_legal, wide_walk_ends}
use Rattle.path_wire.proofs.laws.wide_walks.Goals as goal

pub returns-clause-walk : goal.returns-clause-walk
returns-clause-walk c = λ d m items net via_cost starts goals w fits.
    wide_walk_of_net d m items net via_cost starts goals w fits

pub returns-clause-legal : goal.returns-clause-legal
returns-clause-legal c = λ d m items net via_cost starts goals w fits.
    wide_walk_legal d m items net via_cost starts goals w fits

pub returns-clause-ends : goal.returns-clause-ends
returns-clause-ends c = λ d m items net via_cost starts goals w fits.
    wide_walk_ends d m items net via_cost starts goals w fits
