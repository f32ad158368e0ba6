use Rattle.dsn_tokens.proofs.Every.{each_read}
use Rattle.dsn_tokens.proofs.laws.each_read.Goals as goal

pub returns : goal.returns
returns c = each_read
