use Rattle.tests_board.proofs.Serving.{loses_of}
use Rattle.tests_board.proofs.copper.removed.Goals as goal

pub returns-in-Ok : goal.returns-in-Ok
returns-in-Ok c = loses_of c.args.tiles.now c.remove.new.self c.args.id c.in-Ok.held c.in-Ok.ensures.ok
