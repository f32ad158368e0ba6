use Rattle.std.proofs.Common.{Ok, inl, inr, refl, ap}
use Rattle.dsn_route.specs.declared.status.Status.TheVariants.{Limit}
use Rattle.dsn_route.specs.Lines.{nodes_line}
use Rattle.dsn_route.proofs.Ended.{stopped, routed}
use Rattle.dsn_route.proofs.route.route_design.Goals as goal

pub returns-in-Ok : goal.returns-in-Ok
returns-in-Ok g c =
    routed c.args.command.now _ _ _ _ c.args.design c.requires.asked c.requires.order.routes
    c.route_on-outcome.result.routed c.route_on-outcome.result.status c.route_on-outcome.ensures

pub returns-in-Err-TooManyNodes : goal.returns-in-Err-TooManyNodes
returns-in-Err-TooManyNodes g c =
    let gives = rw (c.in-Err-TooManyNodes.field-0-is, c.knobs_of.ensures) at c.in-Err-TooManyNodes.ensures.lattice in
    rw (c.unrouted.ensures, c.ended.ensures)
    (stopped (Ok c.args.command.now) _ _ _ _ _ Limit (nodes_line c.in-Err-TooManyNodes.count)
    (inr (inr (inl (record {
      design = c.args.design;
      is_design = c.requires.asked;
      routes = c.requires.order.routes;
      many = gives.1;
      line_is = ap nodes_line gives.0;
    })))) refl c.say_nodes.ensures)
