use Rattle.board_picture.proofs.Digits.{exact_length}
use Rattle.board_picture.proofs.laws.lengths_are_exact.Goals as goal

pub returns : goal.returns
returns c = exact_length
