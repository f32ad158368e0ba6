use Rattle.std.proofs.Common.{subst}
use Rattle.path_wire.specs.Diagonals.{wide_graph}
use Rattle.route_lattice.specs.Walks.{Answers}
use Rattle.wide_offer.proofs.Routing.{between, is_route, none_leads, starts_there}
use Rattle.wide_offer.proofs.search.WideSearch.route.Goals as goal

pub walk-found-requires-clause-starts : goal.walk-found-requires-clause-starts
walk-found-requires-clause-starts g c =
    let s = c.args.self.now in
    starts_there s.d.now s.lat.now (g.C.Copper.items s.copper.now) s.via_cost c.args.island.now c.args.others.now
    c.in_ok-starts.starts c.in_ok-starts.ensures

pub route_of-requires-clause-leads : goal.route_of-requires-clause-leads
route_of-requires-clause-leads g c =
    let s = c.args.self.now in
    let items = g.C.Copper.items s.copper.now in
    between s.d.now s.lat.now items s.via_cost c.args.island.now c.args.others.now c.in_ok-starts.starts
    c.in-Ok.goals c.in-Ok-Walk.walk c.in_ok-starts.ensures c.in-Ok.ensures
    (subst (Answers (wide_graph s.d.now s.lat.now items c.args.island.now.net s.via_cost) c.in_ok-starts.starts
    c.in-Ok.goals) c.in-Ok-Walk.field-0-is c.in-Ok-Walk.ensures)

pub returns-in-Ok-Closed : goal.returns-in-Ok-Closed
returns-in-Ok-Closed g c =
    let s = c.args.self.now in
    let items = g.C.Copper.items s.copper.now in
    none_leads s.d.now s.lat.now items s.via_cost c.args.island.now c.args.others.now c.in_ok-starts.starts
    c.in-Ok.goals c.in_ok-starts.ensures c.in-Ok.ensures
    (subst (Answers (wide_graph s.d.now s.lat.now items c.args.island.now.net s.via_cost) c.in_ok-starts.starts
    c.in-Ok.goals) c.in-Ok-Closed.field-0-is c.in-Ok-Closed.ensures).0

pub returns-in-Ok-route_of : goal.returns-in-Ok-route_of
returns-in-Ok-route_of g c =
    let s = c.args.self.now in
    let items = g.C.Copper.items s.copper.now in
    is_route s.d.now s.lat.now items s.via_cost c.args.island.now c.args.others.now c.in_ok-starts.starts
    c.in-Ok.goals c.in-Ok-Walk.walk c.in-Ok-route_of.route c.in_ok-starts.ensures c.in-Ok.ensures
    (subst (Answers (wide_graph s.d.now s.lat.now items c.args.island.now.net s.via_cost) c.in_ok-starts.starts
    c.in-Ok.goals) c.in-Ok-Walk.field-0-is c.in-Ok-Walk.ensures) c.in-Ok-route_of.ensures
