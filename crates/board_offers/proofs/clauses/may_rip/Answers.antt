use Rattle.pcb_model.specs.Bounds.{IsItemFit}
use Rattle.board_offers.specs.inner.Adding.{IsInTheWayOf}
use Rattle.board_offers.proofs.Lists.{got}
use Rattle.board_offers.proofs.Tests.{at_none, at_some}
use Rattle.board_offers.proofs.clauses.may_rip.Goals as goal

pub is_in_the_way-requires-clause-a_fits : goal.is_in_the_way-requires-clause-a_fits
is_in_the_way-requires-clause-a_fits c =
    got IsItemFit c.args.given.now c.requires.given_fit c.args.id c.in-Some.a.now c.in-Some.ensures

pub returns-in-Some : goal.returns-in-Some
returns-in-Some c = at_some (IsInTheWayOf c.args.d.now c.args.net c.args.added.now) _ c.in-Some.a.now
    c.is_in_the_way.result c.in-Some.ensures c.is_in_the_way.ensures

pub returns-in-None : goal.returns-in-None
returns-in-None c = at_none (IsInTheWayOf c.args.d.now c.args.net c.args.added.now) _ c.in-None.ensures
