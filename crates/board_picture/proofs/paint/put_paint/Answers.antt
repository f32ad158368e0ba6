use Rattle.board_picture.specs.Colours.{paint_words}
use Rattle.board_picture.proofs.Parts.{put_last}
use Rattle.board_picture.proofs.paint.put_paint.Goals as goal

pub returns : goal.returns
unfolding paint_words
returns c =
    put_last c.put_dash.result _ _ (rw c.colour.ensures at c.in_ok-put_parts.ensures) c.put_dash.ensures
