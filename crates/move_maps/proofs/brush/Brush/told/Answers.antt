use Rattle.std.proofs.Common.{subst}
use Rattle.move_maps.specs.Paint.{IsBrush}
use Rattle.move_maps.proofs.brush.Brush.told.Goals as goal

pub returns : goal.returns
returns c = subst IsBrush c.self.view_is c.self.invariant.0
