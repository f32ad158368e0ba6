use Rattle.board_gen.specs.Board.{head_lines}
use Rattle.board_gen.proofs.Puts.{then_put}
use Rattle.board_gen.proofs.text.put_head.Goals as goal

pub returns : goal.returns
unfolding head_lines
returns c =
    let first = rw c.coordinate.ensures at c.in_ok-put_number.ensures in
    let second = rw c.coordinate-2.ensures at c.in_ok-put_number-2.ensures in
    let two = then_put c.in_ok-put.ensures first in
    let three = then_put two c.in_ok-put-2.ensures in
    let four = then_put three second in
    then_put four c.in_ok-put-3.ensures
