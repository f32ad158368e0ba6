use Rattle.geo_kernel.proofs.Bounds.{apart_value, apart_within}
use Rattle.geo_kernel.proofs.bounded.Bounded.minus.Goals as goal

pub returns-clause-x : goal.returns-clause-x
returns-clause-x c = apart_value c.args.self.at.x c.args.q.at.x c.args.self.within.0 c.args.q.within.0

pub returns-clause-y : goal.returns-clause-y
returns-clause-y c = apart_value c.args.self.at.y c.args.q.at.y c.args.self.within.1 c.args.q.within.1

pub invariant_of-result : goal.invariant_of-result
invariant_of-result c = record {
  within = (
    apart_within c.args.self.at.x c.args.q.at.x c.args.self.within.0 c.args.q.within.0,
    apart_within c.args.self.at.y c.args.q.at.y c.args.self.within.1 c.args.q.within.1,
  );
}
