use Rattle.std.proofs.Common.{◌≡◌, ◌++◌, take}
use Rattle.dsn_design.specs.Items.{fixed_wiring}
use Rattle.dsn_design.proofs.wiring.push_fixed.Given as goal

abbrev pub invariant-loop-wire : goal.invariant-loop-wire
invariant-loop-wire l = l.items ≡ l.initial.items ++ fixed_wiring l.d.padstacks (take l.wire-index l.wires)
