use Rattle.path_wire.proofs.Touching.{metal_plain, anchored_touches, neighbours_touch}
use Rattle.path_wire.proofs.laws.copper_touches.Goals as goal

pub returns-clause-anchored : goal.returns-clause-anchored
returns-clause-anchored c = anchored_touches

pub returns-clause-neighbours : goal.returns-clause-neighbours
returns-clause-neighbours c = neighbours_touch

pub returns-clause-plain : goal.returns-clause-plain
returns-clause-plain c = λ d net id a plain. record { plain = λ n e. metal_plain d a plain }
