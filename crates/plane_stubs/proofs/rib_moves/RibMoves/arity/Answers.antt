use Rattle.std.proofs.Common.{arith}
use Rattle.plane_stubs.proofs.Counting.{few_ways}
use Rattle.plane_stubs.proofs.rib_moves.RibMoves.arity.Goals as goal

pub returns-clause-few : goal.returns-clause-few
returns-clause-few c =
    let s = c.self.inside in
    let can = c.self.invariant.0 in
    let few = few_ways s.legal.d.now s.legal.lat.now s.legal.net can.sound can.fits in
    let is = s.legal.arity_is in
    omega (arith, few, is)
