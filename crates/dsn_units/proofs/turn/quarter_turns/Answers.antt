use Rattle.dsn_units.proofs.Turns.{whole_quarters, four_quarters}
use Rattle.dsn_units.proofs.turn.quarter_turns.Goals as goal

pub returns-clause-exact : goal.returns-clause-exact
returns-clause-exact c = whole_quarters

pub returns-clause-four : goal.returns-clause-four
returns-clause-four c = four_quarters
