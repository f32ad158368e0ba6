use Rattle.board_picture.specs.Picture.{keepout_groups}
use Rattle.ses_writer.proofs.Puts.{then_put}
use Rattle.board_picture.proofs.Parts.{put_last}
use Rattle.board_picture.proofs.copper.put_keepout_groups.Goals as goal

pub returns : goal.returns
unfolding keepout_groups
returns c =
    let two = then_put c.in_ok-put_keepout_group.ensures c.in_ok-put_keepout_group-2.ensures in
    put_last c.put_keepout_group-3.result _ _ two c.put_keepout_group-3.ensures
