use Rattle.board_picture.specs.Legend.{swatch_head, open_row}
use Rattle.board_picture.proofs.Parts.{put_last}
use Rattle.board_picture.proofs.legend.put_open_row.Goals as goal

pub returns : goal.returns
unfolding swatch_head open_row
returns c =
    put_last c.put_count_row.result _ _ c.in_ok-put_parts.ensures c.put_count_row.ensures
