use Rattle.geo_kernel.proofs.Bounds.{beyond_value}
use Rattle.geo_kernel.proofs.rect.is_beyond.Goals as goal

pub returns : goal.returns
returns c = beyond_value c.args.hi c.args.lo c.args.k c.ranges.hi c.ranges.lo c.ranges.k
