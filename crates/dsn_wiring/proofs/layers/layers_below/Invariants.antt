use Rattle.std.proofs.Common.{◌≡◌}
use Rattle.dsn_wiring.specs.Layers.{layers_below}
use Rattle.dsn_wiring.proofs.layers.layers_below.Given as goal

abbrev pub invariant-loop-i : goal.invariant-loop-i
invariant-loop-i l = l.found ≡ layers_below l.i l.layers
