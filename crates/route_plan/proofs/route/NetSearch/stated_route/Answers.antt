use Rattle.std.proofs.Common.{subst}
use Rattle.wave_search.specs.Stated.{AnswersStated}
use Rattle.route_plan.specs.Routes.{walks_of}
use Rattle.route_plan.proofs.Leading.{finds_stated, starts_there}
use Rattle.route_plan.proofs.route.NetSearch.stated_route.Goals as goal

pub stated-found-requires-clause-starts : goal.stated-found-requires-clause-starts
stated-found-requires-clause-starts g c = starts_there c.args.self.now c.in_ok-starts.starts c.in_ok-starts.ensures

pub returns-in-Ok-route_of-clause-finds : goal.returns-in-Ok-route_of-clause-finds
returns-in-Ok-route_of-clause-finds g c =
    let y = c.args.self.now in
    let starts = c.in_ok-starts.starts in
    let goals = c.in-Ok.goals in
    let stated = subst (AnswersStated (walks_of y) starts goals) c.in-Ok-Walk.field-0-is c.in-Ok-Walk.ensures.answers in
    finds_stated y starts goals c.in-Ok-Walk.walk c.in-Ok-route_of.route c.in_ok-starts.ensures c.in-Ok.ensures stated
    c.in-Ok-route_of.ensures
