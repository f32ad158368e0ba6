use Rattle.std.proofs.Common.{◌≡◌, take}
use Rattle.dsn_design.specs.Items.{free_wiring}
use Rattle.dsn_design.proofs.wiring.free_wiring.Given as goal

abbrev pub invariant-loop-wire : goal.invariant-loop-wire
invariant-loop-wire l = l.free ≡ free_wiring (take l.wire-index l.wires)
