use Rattle.std.proofs.Common.{refl, flat_map}
use Rattle.board_picture.specs.Shapes.{loop_words}
use Rattle.ses_writer.proofs.Puts.{with_next, at_end, leads_on, all_put}
use Rattle.board_picture.proofs.shapes.put_loops.Goals as goal

pub loop-points-init : goal.loop-points-init
loop-points-init c = record { is = refl }

pub loop-points-preserved : goal.loop-points-preserved
unfolding loop_words
loop-points-preserved c =
    let left = with_next (flat_map loop_words) c.args.loops.now c.loop-points.points-index c.points-item.result
    c.loop-points-test.true c.points-item.is c.loop-points.invariant in
    leads_on left (rw c.as_slice.ensures at c.in_ok-put_parts.ensures)

pub returns : goal.returns
returns c =
    all_put (at_end (flat_map loop_words) c.args.loops.now c.loop-points.points-index c.loop-points-test.false
    c.loop-points.invariant)
