use Rattle.pcb_board.proofs.Backing.{back_board}
use Rattle.pcb_board.proofs.Runs.{back_grows}
use Rattle.pcb_board.proofs.laws.backs_keep.Goals as goal

pub returns-clause-boards : goal.returns-clause-boards
returns-clause-boards c = λ b to board le. back_board b to board le

pub returns-clause-grows : goal.returns-clause-grows
returns-clause-grows c = λ b to. back_grows b to
