use Rattle.std.proofs.Common.{lit≤}
use Rattle.geo_kernel.proofs.Bounds.{widened, widened_within, cast_fits}
use Rattle.geo_kernel.proofs.segment.Near.of.Goals as goal

pub returns-clause-above : goal.returns-clause-above
returns-clause-above c = widened c.dot.result _ c.dot.ensures.within c.dot.ensures.value

pub invariant_of-result : goal.invariant_of-result
invariant_of-result c =
    record { above_within = widened_within c.dot.result c.dot.ensures.within; below_within = lit≤ tt }

pub overflow_cast-result : goal.overflow_cast-result
overflow_cast-result c = cast_fits c.dot.result c.dot.ensures.within
