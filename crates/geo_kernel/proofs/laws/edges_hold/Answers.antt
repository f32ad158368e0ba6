use Rattle.geo_kernel.proofs.Staying.{stays_inside}
use Rattle.geo_kernel.proofs.laws.edges_hold.Goals as goal

pub returns : goal.returns
returns c = stays_inside
