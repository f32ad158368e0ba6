use Rattle.std.proofs.Common.{◌≡◌, map, take}
use Rattle.ses_reader.specs.Wiring.{wire_of}
use Rattle.ses_reader.proofs.wiring.wires_of.Given as goal

abbrev pub invariant-loop-item : goal.invariant-loop-item
invariant-loop-item l = l.wires ≡ map wire_of (take l.item-index l.items)
