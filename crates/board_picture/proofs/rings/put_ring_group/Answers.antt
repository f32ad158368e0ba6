use Rattle.board_picture.specs.Picture.{ring_group}
use Rattle.ses_writer.proofs.Puts.{then_put}
use Rattle.board_picture.proofs.Parts.{put_last}
use Rattle.board_picture.proofs.rings.put_ring_group.Goals as goal

pub returns : goal.returns
unfolding ring_group
returns c =
    let two = then_put c.in_ok-put.ensures c.in_ok-put_all_rings.ensures in
    put_last c.put-2.result _ _ two c.put-2.ensures
