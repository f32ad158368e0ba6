use Rattle.closing_pass.proofs.Aside.{one_way_out, one_way_aside}
use Rattle.closing_pass.proofs.laws.one_way_out.Goals as goal

pub returns-clause-out : goal.returns-clause-out
returns-clause-out c = one_way_out

pub returns-clause-aside : goal.returns-clause-aside
returns-clause-aside c = λ m via_cost b s island others. one_way_aside m via_cost b s island others
