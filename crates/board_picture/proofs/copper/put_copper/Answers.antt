use Rattle.board_picture.specs.Picture.{copper_part}
use Rattle.ses_writer.proofs.Puts.{then_put}
use Rattle.board_picture.proofs.Parts.{put_last}
use Rattle.board_picture.proofs.copper.put_copper.Goals as goal

pub returns : goal.returns
unfolding copper_part
returns c =
    let two = then_put c.in_ok-put_keepout_groups.ensures c.in_ok-put_layer_groups.ensures in
    let three = then_put two c.in_ok-put_through_group.ensures in
    let four = then_put three c.in_ok-put_ring_group.ensures in
    put_last c.put_hole_group.result _ _ four c.put_hole_group.ensures
