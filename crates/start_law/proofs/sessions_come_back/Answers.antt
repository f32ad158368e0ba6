use Rattle.std.proofs.Common.{Ok, false}
use Rattle.start_law.proofs.Back.{comes_back}
use Rattle.start_law.proofs.sessions_come_back.Goals as goal

pub returns : goal.returns
returns c = λ text b old dropped start has board scale session starts.
    comes_back c.legal_copper_is_alike.ensures text b old dropped start has board (c.boards_serve.ensures.legal b board)
    (c.boards_serve.ensures.ascends b board) (c.boards_serve.ensures.serves b board)
    (c.designs_have_wiring.ensures text b.design has)
    (c.boards_read_back.ensures text b false (Ok old) has board scale session) starts
