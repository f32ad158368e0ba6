use Rattle.tests_board.proofs.Serving.{back}
use Rattle.tests_board.proofs.copper.put_back.Goals as goal

pub returns-in-Ok : goal.returns-in-Ok
returns-in-Ok c =
    back c.args.tiles.now c.put_item.new.tiles c.args.d.now c.in_ok-item.item c.requires.serves
    c.in_ok-item.ensures.routed c.in_ok-item.ensures.of c.in-Ok.ensures
