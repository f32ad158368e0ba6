use Rattle.board_picture.specs.Picture.{head_part, ground_words}
use Rattle.board_picture.proofs.Parts.{put_last}
use Rattle.board_picture.proofs.picture.put_head.Goals as goal

pub returns : goal.returns
unfolding head_part ground_words
returns c =
    let sized = rw c.sheet_width.ensures at rw c.sheet_height.ensures at c.in_ok-put_parts.ensures in
    put_last c.put.result _ _ (rw c.as_slice.ensures at sized) c.put.ensures
