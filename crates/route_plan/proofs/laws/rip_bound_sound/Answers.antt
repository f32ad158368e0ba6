use Rattle.route_plan.proofs.Resting.{bounds}
use Rattle.route_plan.proofs.laws.rip_bound_sound.Goals as goal

pub returns : goal.returns
returns c = λ d m items net via_cost penalty goals boxes can around.
    bounds d m items net via_cost penalty goals boxes
    (c.box_bound_sound.ensures d m d.fixed net via_cost goals boxes can.can_move around)
