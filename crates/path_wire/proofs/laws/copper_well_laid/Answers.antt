use Rattle.path_wire.proofs.Fitted.{walk_laid}
use Rattle.path_wire.proofs.laws.copper_well_laid.Goals as goal

pub returns : goal.returns
returns c = λ d m net id nodes moves sound fits there. walk_laid d m net id sound fits there nodes moves
