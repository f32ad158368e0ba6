use Rattle.path_wire.proofs.Agreeing.{walk_inside}
use Rattle.path_wire.proofs.laws.copper_inside.Goals as goal

pub returns : goal.returns
returns c = walk_inside
