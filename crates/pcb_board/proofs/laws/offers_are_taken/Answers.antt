use Rattle.pcb_board.proofs.Standing.{is_taken}
use Rattle.pcb_board.proofs.laws.offers_are_taken.Goals as goal

pub returns : goal.returns
returns c = λ b after o a formed clear step. is_taken b after o a formed clear step
