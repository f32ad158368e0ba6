use Rattle.std.proofs.Common.{◌∙◌}
use Rattle.wave_search.proofs.Run.{unbound, goalless}
use Rattle.wave_search.proofs.query.Query.settle_rest.Goals as goal

pub settle-requires-clause-state : goal.settle-requires-clause-state
settle-requires-clause-state g c =
    goalless c.in_ok-none.none (c.in_ok-none.ensures ∙ c.new-empty.ensures) c.requires.state

pub invariant_of-rest-clause-bound : goal.invariant_of-rest-clause-bound
invariant_of-rest-clause-bound g c =
    unbound c.in_ok-none.none (c.in_ok-none.ensures ∙ c.new-empty.ensures) c.args.self.now.bound
