use Rattle.pcb_board.proofs.Joining.{kept_by}
use Rattle.pcb_board.proofs.Runs.{step_grows}
use Rattle.pcb_board.proofs.laws.steps_keep.Goals as goal

pub returns-clause-boards : goal.returns-clause-boards
returns-clause-boards c = λ b after o a board step.
    kept_by b after o a (λ x y h. c.pairs_are_symmetric.ensures.agree b.design x y h) board step

pub returns-clause-grows : goal.returns-clause-grows
returns-clause-grows c = λ b after o a step. step_grows b after o a step
