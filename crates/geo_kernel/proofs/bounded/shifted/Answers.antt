use Rattle.std.proofs.Common.{arith}
use Rattle.std.proofs.lemmas.Int.{ints}
use Rattle.geo_kernel.proofs.Moves.{point_is}
use Rattle.geo_kernel.proofs.bounded.shifted.Goals as goal

pub returns : goal.returns
returns c = point_is _ _ _ _ (omega (arith, ints)) (omega (arith, ints))
