use Rattle.std.proofs.Common.{arith}
use Rattle.pcb_model.proofs.Boxed.{first_enclosed, second_enclosed}
use Rattle.pcb_model.proofs.near.Extent.joined.Goals as goal

pub returns-clause-other_in : goal.returns-clause-other_in
returns-clause-other_in c = record {
  bounds = second_enclosed c.joined_box.result c.args.self.bounds c.args.other.bounds c.joined_box.ensures.x0
      c.joined_box.ensures.y0 c.joined_box.ensures.x1 c.joined_box.ensures.y1;
  width = omega (arith, c.max.ensures);
  from_layer = omega (arith, c.min.ensures);
  to_layer = omega (arith, c.max-2.ensures);
}

pub returns-clause-self_in : goal.returns-clause-self_in
returns-clause-self_in c = record {
  bounds = first_enclosed c.joined_box.result c.args.self.bounds c.args.other.bounds c.joined_box.ensures.x0
      c.joined_box.ensures.y0 c.joined_box.ensures.x1 c.joined_box.ensures.y1;
  width = omega (arith, c.max.ensures);
  from_layer = omega (arith, c.min.ensures);
  to_layer = omega (arith, c.max-2.ensures);
}
