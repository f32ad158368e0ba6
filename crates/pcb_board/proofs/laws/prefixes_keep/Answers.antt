use Rattle.pcb_board.proofs.Prefix.{prefix_board, board_whole, board_before}
use Rattle.pcb_board.proofs.laws.prefixes_keep.Goals as goal

pub returns-clause-boards : goal.returns-clause-boards
returns-clause-boards c = λ b n board le. prefix_board b n board le

pub returns-clause-whole : goal.returns-clause-whole
returns-clause-whole c = λ b board. board_whole b board

pub returns-clause-stay : goal.returns-clause-stay
returns-clause-stay c = λ b after n grows le. board_before b after n grows le
