use Rattle.std.proofs.Common.{rules}
use Rattle.pcb_model.proofs.Boxed.{first_in, second_in}
use Rattle.pcb_model.proofs.near.box_of_step.Goals as goal

pub returns-clause-x0 : goal.returns-clause-x0
returns-clause-x0 c = let h = c.min.ensures.value in search (rules, h)

pub returns-clause-y0 : goal.returns-clause-y0
returns-clause-y0 c = let h = c.min-2.ensures.value in search (rules, h)

pub returns-clause-x1 : goal.returns-clause-x1
returns-clause-x1 c = let h = c.max.ensures.value in search (rules, h)

pub returns-clause-y1 : goal.returns-clause-y1
returns-clause-y1 c = let h = c.max-2.ensures.value in search (rules, h)

pub returns-clause-a_in : goal.returns-clause-a_in
returns-clause-a_in c =
    first_in _ c.args.a c.args.b (returns-clause-x0 c) (returns-clause-y0 c) (returns-clause-x1 c) (returns-clause-y1 c)

pub returns-clause-b_in : goal.returns-clause-b_in
returns-clause-b_in c =
    second_in _ c.args.a c.args.b (returns-clause-x0 c) (returns-clause-y0 c)
    (returns-clause-x1 c) (returns-clause-y1 c)
