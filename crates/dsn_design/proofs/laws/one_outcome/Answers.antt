use Rattle.dsn_design.proofs.OneOutcome.{one_outcome}
use Rattle.dsn_design.proofs.laws.one_outcome.Goals as goal

pub returns : goal.returns
returns c = one_outcome c.one_answer.ensures
