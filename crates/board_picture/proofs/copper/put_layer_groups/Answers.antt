use Rattle.ses_writer.proofs.Puts.{leads_on}
use Rattle.board_picture.proofs.Layers.{layers_next}
use Rattle.board_picture.proofs.copper.put_layer_groups.Goals as goal

pub loop-layer-preserved : goal.loop-layer-preserved
loop-layer-preserved c =
    let so_far = rw (layers_next c.args.d.now c.args.items.now c.loop-layer.layer c.loop-layer-test.true)
    at c.loop-layer.invariant in
    leads_on so_far c.in_ok-put_layer_group.ensures
