use Rattle.check_law.proofs.Right.{written_is_right}
use Rattle.check_law.proofs.written_is_right.Goals as goal

pub returns : goal.returns
returns c = λ d items routed omit xs facts found w sound islands.
    let board = c.session_boards_serve.ensures d xs w.sound sound in
    written_is_right c.pairs_are_symmetric.ensures.touch c.pairs_are_symmetric.ensures.agree d items routed omit xs
    facts w
    board.0 board.1 found islands
