use Rattle.board_picture.specs.Picture.{keepout_group}
use Rattle.ses_writer.proofs.Puts.{then_put}
use Rattle.board_picture.proofs.Parts.{put_last}
use Rattle.board_picture.proofs.copper.put_keepout_group.Goals as goal

pub returns : goal.returns
unfolding keepout_group
returns c =
    let one = rw c.hatch_paint.ensures at c.in_ok-put_parts.ensures in
    put_last c.put.result _ _ (then_put one c.in_ok-put_keepouts.ensures) c.put.ensures
