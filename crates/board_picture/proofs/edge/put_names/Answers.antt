use Rattle.board_picture.specs.Picture.{name_group}
use Rattle.ses_writer.proofs.Puts.{then_put}
use Rattle.board_picture.proofs.Parts.{put_last}
use Rattle.board_picture.proofs.edge.put_names.Goals as goal

pub returns : goal.returns
unfolding name_group
returns c =
    let texts = rw c.as_slice.ensures at c.in_ok-put_name_texts.ensures in
    let two = then_put c.in_ok-put_parts.ensures texts in
    put_last c.put.result _ _ two c.put.ensures
