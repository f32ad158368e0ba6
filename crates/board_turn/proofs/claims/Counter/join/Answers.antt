use Rattle.std.proofs.Common.{rules}
use Rattle.board_turn.proofs.ClaimMoves.{glues}
use Rattle.board_turn.proofs.claims.Counter.join.Goals as goal

pub join_seat-requires : goal.join_seat-requires
join_seat-requires c = (search rules, search rules, search rules, search rules, glues _ _ _ _ _ (search rules))
