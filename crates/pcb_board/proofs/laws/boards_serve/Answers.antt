use Rattle.pcb_board.proofs.Standing.{legal_now, ascends_now, serves_now}
use Rattle.pcb_board.proofs.laws.boards_serve.Goals as goal

pub returns-clause-legal : goal.returns-clause-legal
returns-clause-legal c = λ b board. legal_now b board

pub returns-clause-ascends : goal.returns-clause-ascends
returns-clause-ascends c = λ b board. ascends_now b board

pub returns-clause-serves : goal.returns-clause-serves
returns-clause-serves c = λ b board. serves_now b board
