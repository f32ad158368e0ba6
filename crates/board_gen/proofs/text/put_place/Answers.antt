use Rattle.std.proofs.lemmas.Result.{on_ok_weaker}
use Rattle.board_gen.specs.Board.{place_line}
use Rattle.board_gen.proofs.Puts.{then_put}
use Rattle.board_gen.proofs.text.put_place.Goals as goal

pub returns : goal.returns
unfolding place_line
returns c =
    let number = rw c.from.ensures at c.in_ok-put_number.ensures in
    let across = rw c.coordinate.ensures at c.in_ok-put_number-2.ensures in
    let up = rw c.coordinate-2.ensures at c.in_ok-put_number-3.ensures in
    let two = then_put c.in_ok-put.ensures number in
    let three = then_put two c.in_ok-put-2.ensures in
    let four = then_put three across in
    let five = then_put four c.in_ok-put-3.ensures in
    let six = then_put five up in
    on_ok_weaker c.put-4.result (λ last. then_put six last) c.put-4.ensures
