use Rattle.std.proofs.Common.{◌++◌, drop, flat_map}
use Rattle.ses_writer.proofs.Puts.{Leads}
use Rattle.board_picture.specs.Shapes.{shape_on}
use Rattle.board_picture.proofs.shapes.put_pieces_on.Given as goal

abbrev pub invariant-loop-c : goal.invariant-loop-c
invariant-loop-c l =
    Leads l.out.items (flat_map (shape_on l.layer) (drop l.c-index l.pieces))
    (l.fn.out.items ++ flat_map (shape_on l.layer) l.pieces)
