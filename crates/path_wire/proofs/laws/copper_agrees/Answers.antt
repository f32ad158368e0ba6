use Rattle.path_wire.proofs.Agreeing.{walk_agrees}
use Rattle.path_wire.proofs.laws.copper_agrees.Goals as goal

pub returns : goal.returns
returns c = λ d m net id nodes moves b fits. walk_agrees d m net id b fits nodes moves
