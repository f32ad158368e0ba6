use Rattle.std.proofs.Common.{◌≡◌}
use Rattle.dsn_design.specs.Copper.{below}
use Rattle.dsn_design.proofs.edges.below.Given as goal

abbrev pub invariant-loop-layer : goal.invariant-loop-layer
invariant-loop-layer l = l.layers ≡ below l.layer
