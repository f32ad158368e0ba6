use Rattle.wave_search.proofs.Run.{price_small}
use Rattle.wave_search.proofs.query.Query.end.Goals as goal

pub trace-requires-clause-small : goal.trace-requires-clause-small
trace-requires-clause-small g c = price_small c.args.self.now.sound c.requires.first.state

pub chosen_walk-requires-clause-small : goal.chosen_walk-requires-clause-small
chosen_walk-requires-clause-small g c = c.in_ok-settle_rest.ensures.small

pub chosen_walk-requires-2-clause-small : goal.chosen_walk-requires-2-clause-small
chosen_walk-requires-2-clause-small g c = c.in_ok-settle_rest.ensures.small

pub trace-requires-2-clause-there : goal.trace-requires-2-clause-there
trace-requires-2-clause-there g c =
    c.in_ok-settle_rest.ensures.kept c.args.goal.node c.args.goal.label c.requires.first.there c.requires.first.is_done

pub trace-requires-2-clause-small : goal.trace-requires-2-clause-small
trace-requires-2-clause-small g c = c.in_ok-settle_rest.ensures.small
