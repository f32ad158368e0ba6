use Rattle.route_run.proofs.Rounds.{all_shut}
use Rattle.route_run.proofs.laws.cuts_are_shut.Goals as goal

pub returns : goal.returns
returns c = λ d m r b facts run asked.
    all_shut m r.via_cost b r.diagonal facts.cuts facts.wide asked run.facts_are.wide_is
