use Rattle.std.proofs.Common.{arith}
use Rattle.pcb_tiles.proofs.Shelves.{room_home, room_last}
use Rattle.pcb_tiles.proofs.shelf.room_of.Goals as goal

pub returns-then-k-chunks-clause-room : goal.returns-then-k-chunks-clause-room
returns-then-k-chunks-clause-room c =
    room_home c.args.chunks.now c.args.id c.home_of-k.result c.requires.ascends c.requires.each c.home_of-k.ensures
    (omega arith)

pub returns-clause-room : goal.returns-clause-room
returns-clause-room c =
    room_last c.args.chunks.now c.args.id c.home_of-k.result c.saturating_sub.result c.requires.ascends
    c.home_of-k.ensures
    (omega arith) (omega arith)
