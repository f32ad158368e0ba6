use Rattle.board_offers.proofs.Troubles.{there_alone, missing_alone}
use Rattle.board_offers.proofs.trouble.if_missing.Goals as goal

pub returns-in-Some : goal.returns-in-Some
returns-in-Some g c =
    let h = c.in-Some.ensures in there_alone (g.C.Copper.items c.args.c.now) c.args.id c.in-Some.field-0.now h.0 h.1

pub returns-in-None : goal.returns-in-None
returns-in-None g c = missing_alone (g.C.Copper.items c.args.c.now) c.args.id c.in-None.ensures
