use Rattle.tests_board.proofs.Serving.{made_of}
use Rattle.tests_board.proofs.board.made.Goals as goal

pub returns-clause-of : goal.returns-clause-of
returns-clause-of c =
    made_of c.args.d.now c.args.free.now c.args.id c.in_ok-metal.metal c.in_ok-item.item c.requires.sound
    c.requires.free
    c.in_ok-metal.ensures c.in_ok-item.ensures
