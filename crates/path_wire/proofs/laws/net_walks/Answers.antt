use Rattle.path_wire.proofs.Hopping.{walk_of_net, walk_legal, walk_ends}
use Rattle.path_wire.proofs.laws.net_walks.Goals as goal

pub returns-clause-walk : goal.returns-clause-walk
returns-clause-walk c = walk_of_net

pub returns-clause-legal : goal.returns-clause-legal
returns-clause-legal c = walk_legal

pub returns-clause-ends : goal.returns-clause-ends
returns-clause-ends c = walk_ends
