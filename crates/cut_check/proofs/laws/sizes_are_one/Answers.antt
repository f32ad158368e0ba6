use Rattle.cut_check.proofs.Single.{counts_one, nodes_one}
use Rattle.cut_check.proofs.laws.sizes_are_one.Goals as goal

pub returns-clause-nodes : goal.returns-clause-nodes
returns-clause-nodes c = nodes_one

pub returns-clause-counts : goal.returns-clause-counts
returns-clause-counts c = counts_one
