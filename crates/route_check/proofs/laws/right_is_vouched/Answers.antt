use Rattle.route_check.proofs.Vouched.{vouched}
use Rattle.route_check.proofs.laws.right_is_vouched.Goals as goal

pub returns : goal.returns
returns c = λ d xs report found sound items islands right.
    let board = c.session_boards_serve.ensures d xs sound items in
    vouched c.pairs_are_symmetric.ensures.touch d xs report found sound board.0 board.1
    (λ i x within. (items i x within).net_in_range) islands right
