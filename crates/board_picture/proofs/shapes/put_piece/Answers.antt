use Rattle.board_picture.specs.Shapes.{piece_shape}
use Rattle.ses_writer.proofs.Puts.{then_put}
use Rattle.board_picture.proofs.Parts.{put_last}
use Rattle.board_picture.proofs.shapes.put_piece.Goals as goal

pub returns : goal.returns
unfolding piece_shape
returns c =
    let two = then_put c.in_ok-put.ensures c.in_ok-put_length.ensures in
    put_last c.put_spine.result _ _ two c.put_spine.ensures
