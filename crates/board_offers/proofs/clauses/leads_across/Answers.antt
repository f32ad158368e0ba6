use Rattle.pcb_model.specs.Bounds.{IsItemFit}
use Rattle.board_offers.proofs.Lists.{got}
use Rattle.board_offers.proofs.Tests.{between, no_end, no_start}
use Rattle.board_offers.proofs.clauses.leads_across.Goals as goal

pub leads_to-requires-clause-from_fits : goal.leads_to-requires-clause-from_fits
leads_to-requires-clause-from_fits c =
    got IsItemFit c.args.given.now c.requires.given_fit c.args.from c.in-Some.a.now c.in-Some.ensures

pub leads_to-requires-clause-to_fits : goal.leads_to-requires-clause-to_fits
leads_to-requires-clause-to_fits c =
    got IsItemFit c.args.given.now c.requires.given_fit c.args.to c.in-Some-given_item.b.now
    c.in-Some-given_item.ensures

pub returns-in-Some-given_item : goal.returns-in-Some-given_item
returns-in-Some-given_item c =
    between c.args.given.now c.args.chain.now c.args.from c.args.to c.in-Some.a.now c.in-Some-given_item.b.now
    c.leads_to.result c.in-Some.ensures c.in-Some-given_item.ensures c.leads_to.ensures

pub returns-in-None : goal.returns-in-None
returns-in-None c = no_end c.args.given.now c.args.chain.now c.args.from c.args.to c.in-None.ensures

pub returns-in_default : goal.returns-in_default
returns-in_default c = no_start c.args.given.now c.args.chain.now c.args.from c.args.to c.in_default.ensures
