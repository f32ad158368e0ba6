use Rattle.std.specs.Prelude.{codes}
use Rattle.board_picture.specs.Picture.{board_head}
use Rattle.ses_writer.proofs.Puts.{then_put}
use Rattle.board_picture.proofs.Parts.{two_last}
use Rattle.board_picture.proofs.picture.put_board_head.Goals as goal

pub returns : goal.returns
unfolding board_head
returns c =
    let two = then_put c.in_ok-put.ensures c.in_ok-put_shift_x.ensures in
    let three = then_put two c.in_ok-put-2.ensures in
    let four = then_put three c.in_ok-put_shift_y.ensures in
    two_last c.put-3.result _ (codes ") scale(1 -1)\" fill-rule=\"evenodd\"")
    (codes " stroke-linecap=\"round\" stroke-linejoin=\"round\">\n") four c.put-3.ensures
