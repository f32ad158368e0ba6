use Rattle.board_picture.specs.Picture.{open_group}
use Rattle.ses_writer.proofs.Puts.{then_put}
use Rattle.board_picture.proofs.Parts.{put_last}
use Rattle.board_picture.proofs.edge.put_open.Goals as goal

pub returns : goal.returns
unfolding open_group
returns c =
    let two = then_put c.in_ok-put_parts.ensures c.in_ok-put_lines.ensures in
    put_last c.put.result _ _ two c.put.ensures
