use Rattle.path_wire.proofs.Widths.{routes}
use Rattle.path_wire.proofs.laws.copper_widths.Goals as goal

pub returns : goal.returns
returns c = routes
