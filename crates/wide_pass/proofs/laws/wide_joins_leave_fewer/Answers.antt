use Rattle.pcb_board.proofs.Standing.{ascends_now}
use Rattle.wide_pass.proofs.Fewer.{fewer_open}
use Rattle.wide_pass.proofs.laws.wide_joins_leave_fewer.Goals as goal

pub returns : goal.returns
returns c = λ m via_cost b o kept plain fits base there wide.
    fewer_open m via_cost b o kept wide there
    (c.wide_offers_may_be_made.ensures m via_cost b o kept (ascends_now b kept) plain fits base there wide)
