use Rattle.std.proofs.Common.{refl, flat_map}
use Rattle.board_picture.specs.Picture.{bound_shape}
use Rattle.ses_writer.proofs.Puts.{with_next, at_end, leads_on, all_put, then_put}
use Rattle.board_picture.proofs.edge.put_bounds.Goals as goal

pub loop-loops-init : goal.loop-loops-init
loop-loops-init c = record { is = refl }

pub loop-loops-preserved : goal.loop-loops-preserved
unfolding bound_shape
loop-loops-preserved c =
    let left = with_next (flat_map bound_shape) c.args.bounds.now c.loop-loops.loops-index c.loops-item.result
    c.loop-loops-test.true c.loops-item.is c.loop-loops.invariant in
    let two = then_put c.in_ok-put.ensures (rw c.as_slice.ensures at c.in_ok-put_loops.ensures) in
    leads_on left (then_put two c.in_ok-put-2.ensures)

pub returns : goal.returns
returns c =
    all_put (at_end (flat_map bound_shape) c.args.bounds.now c.loop-loops.loops-index c.loop-loops-test.false
    c.loop-loops.invariant)
