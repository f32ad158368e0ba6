use Rattle.tests_board.proofs.Exchange.{laid_with}
use Rattle.tests_board.proofs.laying.lay.Goals as goal

pub returns : goal.returns
returns c =
    laid_with c.args.d.now c.in_ok-item.item c.in_ok-copper.copper c.requires.sound c.in_ok-item.ensures.routed
    c.in_ok-item.ensures.of c.in_ok-copper.ensures
