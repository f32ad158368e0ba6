use Rattle.std.proofs.Common.{rules}
use Rattle.board_turn.proofs.ClaimMoves.{looks, draws}
use Rattle.board_turn.proofs.claims.next_of.Goals as goal

pub load-next-requires : goal.load-next-requires
load-next-requires g c = (search rules, search rules, looks _ _ _ _)

pub compare_exchange-found-requires : goal.compare_exchange-found-requires
compare_exchange-found-requires g c = (search rules, search rules, draws _ _ _ _ _ (search rules) (search rules))
