use Rattle.board_picture.specs.Legend.{legend_head}
use Rattle.board_picture.proofs.legend.put_head.Goals as goal

pub returns : goal.returns
unfolding legend_head
returns c =
    rw c.legend_left.ensures at c.put_parts.ensures
