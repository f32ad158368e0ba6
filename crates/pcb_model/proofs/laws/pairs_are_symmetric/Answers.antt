use Rattle.pcb_model.proofs.Symmetry.{agrees_swapped, touching_swapped}
use Rattle.pcb_model.proofs.laws.pairs_are_symmetric.Goals as goal

pub returns-clause-agree : goal.returns-clause-agree
returns-clause-agree c = agrees_swapped

pub returns-clause-touch : goal.returns-clause-touch
returns-clause-touch c = touching_swapped
