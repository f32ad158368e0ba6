use Rattle.ses_reader.proofs.OneSession.{one_session}
use Rattle.ses_reader.proofs.laws.one_session.Goals as goal

pub returns : goal.returns
returns c = one_session c.one_answer.ensures
