use Rattle.copper_check.proofs.Clashing.{clash_least, clash_there}
use Rattle.copper_check.proofs.clash.clash_of.Goals as goal

pub returns-in-Some-clause-reached : goal.returns-in-Some-clause-reached
returns-in-Some-clause-reached g c =
    clash_there c.args.d.now (g.C.Copper.items c.args.c.now) c.pairs_are_symmetric.ensures.agree c.args.a.now
    c.in-Some.id c.min.result c.requires.there c.if-a.false c.in-Some.ensures c.min.ensures

pub returns-in-Some-clause-own : goal.returns-in-Some-clause-own
returns-in-Some-clause-own g c =
    clash_least c.args.d.now (g.C.Copper.items c.args.c.now) c.pairs_are_symmetric.ensures.agree c.args.a.now
    c.in-Some.id c.min.result c.in-Some.ensures c.min.ensures
