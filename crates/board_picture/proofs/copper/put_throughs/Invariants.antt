use Rattle.std.proofs.Common.{◌++◌, drop, flat_map}
use Rattle.ses_writer.proofs.Puts.{Leads}
use Rattle.board_picture.specs.Shapes.{through_shapes}
use Rattle.board_picture.proofs.copper.put_throughs.Given as goal

abbrev pub invariant-loop-a : goal.invariant-loop-a
invariant-loop-a l =
    Leads l.out.items (flat_map through_shapes (drop l.a-index l.items))
    (l.fn.out.items ++ flat_map through_shapes l.items)
