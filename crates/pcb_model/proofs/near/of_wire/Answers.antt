use Rattle.std.proofs.Common.{arith}
use Rattle.pcb_model.proofs.Least.{box_min_within, step_extent}
use Rattle.pcb_model.proofs.Boxed.{one_in, two_in}
use Rattle.pcb_model.proofs.near.of_wire.Goals as goal

pub returns-clause-least : goal.returns-clause-least
returns-clause-least c =
    let e = c.box_of_step.ensures in
    step_extent c.box_of_step.result c.args.layer c.args.width c.args.a c.args.b (omega arith)
    c.requires.a_within c.requires.b_within e.x0 e.y0 e.x1 e.y1

pub returns-clause-within : goal.returns-clause-within
returns-clause-within c =
    let e = c.box_of_step.ensures in
    box_min_within c.box_of_step.result c.args.a c.args.b c.requires.a_within c.requires.b_within e.x0 e.y0 e.x1 e.y1

pub returns-clause-one : goal.returns-clause-one
returns-clause-one c =
    one_in c.box_of_step.result c.args.layer c.args.width c.requires.width_within c.args.a c.box_of_step.ensures.a_in

pub returns-clause-two : goal.returns-clause-two
returns-clause-two c = two_in c.box_of_step.result c.args.layer c.args.width c.requires.width_within c.args.a c.args.b
    c.box_of_step.ensures.a_in c.box_of_step.ensures.b_in
