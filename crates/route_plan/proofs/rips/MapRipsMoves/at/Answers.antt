use Rattle.route_plan.proofs.rips.MapRipsMoves.at.Goals as goal

pub at-requires-clause-ready : goal.at-requires-clause-ready
at-requires-clause-ready g c =
    let r = c.requires.ready in
    ((r.0.0.can_move, r.0.1), r.1.map_is, r.1.alike, r.1.own_is)
