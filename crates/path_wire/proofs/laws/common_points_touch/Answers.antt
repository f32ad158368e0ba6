use Rattle.path_wire.proofs.Touching.{common_point}
use Rattle.path_wire.proofs.laws.common_points_touch.Goals as goal

pub returns : goal.returns
returns c = common_point
