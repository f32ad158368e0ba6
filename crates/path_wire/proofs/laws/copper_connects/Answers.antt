use Rattle.path_wire.proofs.Joining.{walk_connects}
use Rattle.path_wire.proofs.laws.copper_connects.Goals as goal

pub returns : goal.returns
returns c = λ d m net v nodes moves fits. walk_connects d m net fits v nodes moves
