use Rattle.std.proofs.Common.{rules}
use Rattle.board_turn.proofs.ClaimMoves.{cuts}
use Rattle.board_turn.proofs.claims.Counter.split.Goals as goal

pub split_seat-requires : goal.split_seat-requires
split_seat-requires c = (search rules, search rules, cuts _ _ _ (search rules))
