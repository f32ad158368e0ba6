use Rattle.path_wire.proofs.Parting.{by_parts}
use Rattle.path_wire.proofs.laws.copper_by_parts.Goals as goal

pub returns : goal.returns
returns c = by_parts
