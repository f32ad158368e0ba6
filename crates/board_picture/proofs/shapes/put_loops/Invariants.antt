use Rattle.std.proofs.Common.{◌++◌, drop, flat_map}
use Rattle.ses_writer.proofs.Puts.{Leads}
use Rattle.board_picture.specs.Shapes.{loop_words}
use Rattle.board_picture.proofs.shapes.put_loops.Given as goal

abbrev pub invariant-loop-points : goal.invariant-loop-points
invariant-loop-points l =
    Leads l.out.items (flat_map loop_words (drop l.points-index l.loops))
    (l.fn.out.items ++ flat_map loop_words l.loops)
