use Rattle.board_picture.specs.Legend.{mark_rows}
use Rattle.ses_writer.proofs.Puts.{then_put}
use Rattle.board_picture.proofs.Parts.{put_last}
use Rattle.board_picture.proofs.legend.put_mark_rows.Goals as goal

pub returns : goal.returns
unfolding mark_rows
returns c =
    let two = then_put c.in_ok-put_mark.ensures c.in_ok-put_mark-2.ensures in
    let three = then_put two c.in_ok-put_mark-3.ensures in
    let four = then_put three c.in_ok-put_mark-4.ensures in
    let five = then_put four c.in_ok-put_mark-5.ensures in
    let all = put_last c.put_mark-6.result _ _ five c.put_mark-6.ensures in
    rw c.row_behind-full.ensures.value at rw c.row_behind-blind.ensures.value
    at rw c.row_behind-no_wires.ensures.value at rw c.row_behind-no_vias.ensures.value
    at rw c.row_behind-no_copper.ensures.value at all
