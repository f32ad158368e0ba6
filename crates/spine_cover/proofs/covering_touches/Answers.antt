use Rattle.spine_cover.proofs.Covering.{covered_touch}
use Rattle.spine_cover.proofs.covering_touches.Goals as goal

pub returns : goal.returns
returns c = covered_touch
