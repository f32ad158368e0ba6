use Rattle.board_picture.specs.Picture.{edge_group}
use Rattle.ses_writer.proofs.Puts.{then_put}
use Rattle.board_picture.proofs.Parts.{put_last}
use Rattle.board_picture.proofs.edge.put_edge.Goals as goal

pub returns : goal.returns
unfolding edge_group
returns c =
    let bounds = rw c.as_slice.ensures at c.in_ok-put_bounds.ensures in
    let two = then_put c.in_ok-put_parts.ensures bounds in
    put_last c.put.result _ _ two c.put.ensures
