use Rattle.std.proofs.Common.{arith}
use Rattle.std.proofs.lemmas.Int.{ints}
use Rattle.geo_kernel.proofs.Bounds.{cross_value, difference_within}
use Rattle.geo_kernel.proofs.bounded.Vector.cross.Goals as goal

pub returns-clause-value : goal.returns-clause-value
returns-clause-value c =
    cross_value c.args.self.x c.args.self.y c.args.v.x c.args.v.y c.times.result c.times-2.result c.args.self.within
    c.args.v.within c.times.ensures.within c.times-2.ensures.within c.times.ensures.value c.times-2.ensures.value

pub returns-clause-within : goal.returns-clause-within
returns-clause-within c =
    difference_within c.times.result c.times-2.result c.times.ensures.within c.times-2.ensures.within

pub overflow_sub-result : goal.overflow_sub-result
overflow_sub-result c = omega (arith, ints, c.times.ensures.within, c.times-2.ensures.within)
