use Rattle.dsn_tokens.proofs.Ones.{one_reading}
use Rattle.dsn_tokens.proofs.laws.one_reading.Goals as goal

pub returns : goal.returns
returns c = one_reading
