use Rattle.session_law.proofs.ScaleBoards.{board_on_scale}
use Rattle.session_law.proofs.least_joins_are_on_scale.Goals as goal

pub returns : goal.returns
returns c = λ grid via_cost diagonal b board least takes n within.
    board_on_scale grid via_cost diagonal b board least takes n
