use Rattle.dsn_units.proofs.Spellings.{spelled_as_read}
use Rattle.dsn_units.proofs.decimal.read_decimal.Goals as goal

pub returns-clause-spelled : goal.returns-clause-spelled
returns-clause-spelled c = spelled_as_read c.args.text.now
