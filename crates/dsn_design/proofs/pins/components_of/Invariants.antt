use Rattle.std.proofs.Common.{◌≡◌, take}
use Rattle.dsn_design.specs.Counts.{counted_components}
use Rattle.dsn_design.proofs.pins.components_of.Given as goal

abbrev pub invariant-loop-place : goal.invariant-loop-place
invariant-loop-place l = l.components ≡ counted_components l.lib (take l.place-index l.places)
