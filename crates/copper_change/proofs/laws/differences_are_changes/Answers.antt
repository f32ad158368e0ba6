use Rattle.copper_change.proofs.Parting.{change_told}
use Rattle.copper_change.proofs.laws.differences_are_changes.Goals as goal

pub returns : goal.returns
returns c = λ old new gone come up down one since. change_told old new gone come up down one since
