use Rattle.board_picture.specs.Legend.{row_head, count_row}
use Rattle.board_picture.proofs.legend.put_count_row.Goals as goal

pub returns : goal.returns
unfolding row_head count_row
returns c =
    c.put_parts.ensures
