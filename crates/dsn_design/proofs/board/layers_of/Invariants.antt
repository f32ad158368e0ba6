use Rattle.std.proofs.Common.{◌≡◌, take}
use Rattle.dsn_design.specs.Made.{layers_of}
use Rattle.dsn_design.proofs.board.layers_of.Given as goal

abbrev pub invariant-loop-layer : goal.invariant-loop-layer
invariant-loop-layer l = l.all ≡ layers_of (take l.layer-index l.layers)
