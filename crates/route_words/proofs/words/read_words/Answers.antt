use Rattle.route_words.specs.Words.{texts}
use Rattle.route_words.proofs.Ranges.{said_within}
use Rattle.route_words.proofs.words.read_words.Goals as goal

pub returns-clause-within : goal.returns-clause-within
returns-clause-within c = said_within (texts c.args.words.now) c.read_command.result c.read_command.ensures
