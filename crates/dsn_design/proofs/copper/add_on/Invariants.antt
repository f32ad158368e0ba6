use Rattle.std.proofs.Common.{◌≡◌, ◌++◌, take}
use Rattle.std.specs.Prelude.{map}
use Rattle.dsn_design.specs.Copper.{piece_on}
use Rattle.dsn_design.proofs.copper.add_on.Given as goal

abbrev pub invariant-loop-layer : goal.invariant-loop-layer
invariant-loop-layer l = l.pieces ≡ l.initial.pieces ++ map (piece_on l.shape) (take l.layer-index l.layers)
