use Rattle.session_law.proofs.ToldBoards.{boards_tell}
use Rattle.session_law.proofs.sessions_tell_boards.Goals as goal

pub returns : goal.returns
returns c = λ b other omit board too one scale scale_too same.
    let says = c.boards_serve.ensures in
    boards_tell b other omit board too (says.ascends b board) (says.ascends other too) (says.serves b board)
    (says.serves other too)
    one scale scale_too same
