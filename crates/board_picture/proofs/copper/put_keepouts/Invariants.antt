use Rattle.std.proofs.Common.{◌++◌, drop, flat_map}
use Rattle.ses_writer.proofs.Puts.{Leads}
use Rattle.board_picture.specs.Shapes.{keepout_shapes}
use Rattle.board_picture.proofs.copper.put_keepouts.Given as goal

abbrev pub invariant-loop-a : goal.invariant-loop-a
invariant-loop-a l =
    Leads l.out.items (flat_map (keepout_shapes l.hatch) (drop l.a-index l.items))
    (l.fn.out.items ++ flat_map (keepout_shapes l.hatch) l.items)
