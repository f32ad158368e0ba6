use Rattle.board_picture.specs.Picture.{board_part}
use Rattle.ses_writer.proofs.Puts.{then_put}
use Rattle.board_picture.proofs.Parts.{put_last}
use Rattle.board_picture.proofs.picture.put_board.Goals as goal

pub returns : goal.returns
unfolding board_part
returns c =
    let two = then_put c.in_ok-put_board_head.ensures c.in_ok-put_copper.ensures in
    let three = then_put two c.in_ok-put_edge.ensures in
    let four = then_put three c.in_ok-put_names.ensures in
    let five = then_put four c.in_ok-put_open.ensures in
    put_last c.put.result _ _ five c.put.ensures
