use Rattle.std.proofs.Common.{length}
use Rattle.dsn_shapes.proofs.layers.+mask.Given as goal

abbrev pub decreases-mask : goal.decreases-mask
decreases-mask l = length l.layers.now
