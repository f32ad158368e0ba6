use Rattle.wave_search.proofs.Single.{are_least, are_one}
use Rattle.wave_search.proofs.one.stated_walks_are_one.Goals as goal

pub returns-clause-least : goal.returns-clause-least
returns-clause-least g c = are_least (g.M.Moves.graph c.args.m.now)

pub returns-clause-one : goal.returns-clause-one
returns-clause-one g c = are_one (g.M.Moves.graph c.args.m.now)
