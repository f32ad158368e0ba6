use Rattle.board_picture.specs.Legend.{mark_row}
use Rattle.board_picture.proofs.legend.put_mark_row.Goals as goal

pub returns : goal.returns
unfolding mark_row
returns c = rw c.swatch_words.ensures at rw c.label_words.ensures at c.put_parts.ensures
