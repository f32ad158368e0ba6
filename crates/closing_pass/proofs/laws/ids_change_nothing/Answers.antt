use Rattle.closing_pass.proofs.Ids.{ids_change_nothing, stated_beside}
use Rattle.closing_pass.proofs.laws.ids_change_nothing.Goals as goal

pub returns-clause-moves : goal.returns-clause-moves
returns-clause-moves c = ids_change_nothing

pub returns-clause-walks : goal.returns-clause-walks
returns-clause-walks c = stated_beside
