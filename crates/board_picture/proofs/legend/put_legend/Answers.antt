use Rattle.std.specs.Prelude.{codes}
use Rattle.board_picture.specs.Legend.{legend_part}
use Rattle.ses_writer.proofs.Puts.{then_put}
use Rattle.board_picture.proofs.Parts.{two_last}
use Rattle.board_picture.proofs.legend.put_legend.Goals as goal

pub returns : goal.returns
unfolding legend_part
returns c =
    let two = then_put c.in_ok-put_head.ensures c.in_ok-put_layer_rows.ensures in
    let three = then_put two c.in_ok-put_mark_rows.ensures in
    let four = then_put three c.in_ok-put_open_row.ensures in
    let five = then_put four c.in_ok-put_count_rows.ensures in
    let six = two_last c.put_size_row.result _ _ (codes "</g>\n") five c.put_size_row.ensures in
    rw c.len-layers.ensures at rw c.row_behind_marks-row.ensures.value at six
