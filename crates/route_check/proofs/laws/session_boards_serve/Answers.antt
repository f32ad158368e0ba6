use Rattle.route_check.proofs.Boards.{board_rises, board_serves}
use Rattle.route_check.proofs.laws.session_boards_serve.Goals as goal

pub returns : goal.returns
returns c = λ d xs sound items. (board_rises d sound xs, board_serves d sound xs items)
