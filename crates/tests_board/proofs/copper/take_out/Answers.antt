use Rattle.tests_board.proofs.Serving.{less}
use Rattle.tests_board.proofs.copper.take_out.Goals as goal

pub returns : goal.returns
returns c =
    less c.args.tiles.now c.removed.new.tiles c.args.d.now c.in_ok-b.b c.requires c.if-b.false c.in_ok-b.ensures
