use Rattle.std.proofs.Common.{◌++◌, drop, flat_map}
use Rattle.ses_writer.proofs.Puts.{Leads}
use Rattle.board_picture.specs.Shapes.{broad_shape}
use Rattle.board_picture.proofs.shapes.put_broad_pieces.Given as goal

abbrev pub invariant-loop-c : goal.invariant-loop-c
invariant-loop-c l =
    Leads l.out.items (flat_map broad_shape (drop l.c-index l.pieces)) (l.fn.out.items ++ flat_map broad_shape l.pieces)
