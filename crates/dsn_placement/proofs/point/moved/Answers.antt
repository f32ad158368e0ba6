use Rattle.std.proofs.Common.{arith}
use Rattle.std.proofs.lemmas.Int.{ints}
use Rattle.geo_kernel.proofs.Bounds.{moved_value}
use Rattle.dsn_placement.proofs.point.moved.Goals as goal

pub overflow_add-result : goal.overflow_add-result
overflow_add-result c = omega (arith, ints, c.requires.p_within.0, c.requires.by_within.0)

pub overflow_add-result-2 : goal.overflow_add-result-2
overflow_add-result-2 c = omega (arith, ints, c.requires.p_within.1, c.requires.by_within.1)

pub returns : goal.returns
returns c =
    moved_value c.args.p c.args.by c.requires.p_within
    c.requires.by_within
