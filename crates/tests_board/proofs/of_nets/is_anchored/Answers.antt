use Rattle.std.proofs.Common.{sym}
use Rattle.tests_board.proofs.of_nets.is_anchored.Goals as goal

pub anchor_nodes-requires-clause-item : goal.anchor_nodes-requires-clause-item
anchor_nodes-requires-clause-item c =
    (c.requires.sound.fixed c.args.at c.in-Some.item.now (sym c.in-Some.ensures.value)).item
