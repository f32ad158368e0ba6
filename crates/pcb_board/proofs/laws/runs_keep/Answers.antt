use Rattle.pcb_board.proofs.Runs.{runs_kept, runs_grow}
use Rattle.pcb_board.proofs.laws.runs_keep.Goals as goal

pub returns-clause-boards : goal.returns-clause-boards
returns-clause-boards c = λ b after offers answers board makes. runs_kept
    (λ d x y h. c.pairs_are_symmetric.ensures.agree d x y h) b after offers answers board makes

pub returns-clause-grows : goal.returns-clause-grows
returns-clause-grows c = λ b after offers answers makes. runs_grow b after offers answers makes
