use Rattle.board_picture.specs.Legend.{row_head, size_row}
use Rattle.board_picture.proofs.legend.put_size_row.Goals as goal

pub returns : goal.returns
unfolding row_head size_row
returns c =
    c.put_parts.ensures
