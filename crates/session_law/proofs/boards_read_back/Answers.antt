use Rattle.session_law.proofs.BoardItems.{printed_readable}
use Rattle.session_law.proofs.boards_read_back.Goals as goal

pub returns : goal.returns
returns c = λ text b omit_fixed result has board scale reads.
    let wiring = c.designs_have_wiring.ensures text b.design has in
    c.sessions_read_back.ensures b omit_fixed result board scale (printed_readable b board wiring omit_fixed) reads
