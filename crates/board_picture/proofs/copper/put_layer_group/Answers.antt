use Rattle.board_picture.specs.Picture.{layer_group}
use Rattle.ses_writer.proofs.Puts.{then_put}
use Rattle.board_picture.proofs.Parts.{put_last}
use Rattle.board_picture.proofs.copper.put_layer_group.Goals as goal

pub returns : goal.returns
unfolding layer_group
returns c =
    let head = rw c.layer_name.ensures at c.in_ok-put_parts.ensures in
    let two = then_put head c.in_ok-put_paint.ensures in
    let three = then_put two c.in_ok-put.ensures in
    let four = then_put three c.in_ok-put_wires.ensures in
    let five = then_put four c.in_ok-put_lands.ensures in
    put_last c.put-2.result _ _ five c.put-2.ensures
