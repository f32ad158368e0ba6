use Rattle.pcb_board.proofs.Staying.{one_by_id}
use Rattle.pcb_board.proofs.laws.ids_stay.Goals as goal

pub returns : goal.returns
returns c = λ b after board later grows. one_by_id b after board later grows
