use Rattle.route_words.specs.Words.{texts}
use Rattle.route_words.proofs.Meaning.{check_misfit}
use Rattle.route_words.proofs.words.read_check.Goals as goal

pub returns-in-Ok : goal.returns-in-Ok
returns-in-Ok c = c.check_found.ensures (texts c.args.words.now) c.in-Ok.ensures

pub returns-in-Err : goal.returns-in-Err
returns-in-Err c = check_misfit (texts c.args.words.now) c.in-Err.fault c.in-Err.ensures
