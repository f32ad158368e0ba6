use Rattle.dsn_tree.proofs.OneAnswer.{one_answer}
use Rattle.dsn_tree.proofs.laws.one_answer.Goals as goal

pub returns : goal.returns
returns c = one_answer c.one_reading.ensures c.each_read.ensures
