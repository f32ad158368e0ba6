use Rattle.std.proofs.Common.{refl, flat_map}
use Rattle.board_picture.specs.Shapes.{keepout_shapes}
use Rattle.ses_writer.proofs.Puts.{with_next, at_end, leads_on, all_put}
use Rattle.board_picture.proofs.copper.put_keepouts.Goals as goal

pub loop-a-init : goal.loop-a-init
loop-a-init c = record { is = refl }

pub loop-a-preserved : goal.loop-a-preserved
loop-a-preserved c =
    let left = with_next (flat_map (keepout_shapes c.args.hatch)) c.args.items.now c.loop-a.a-index c.a-item.result
    c.loop-a-test.true c.a-item.is c.loop-a.invariant in
    leads_on left c.in_ok-put_keepout.ensures

pub returns : goal.returns
returns c =
    all_put (at_end (flat_map (keepout_shapes c.args.hatch)) c.args.items.now c.loop-a.a-index c.loop-a-test.false
    c.loop-a.invariant)
