use Rattle.std.proofs.Common.{◌≡◌, take}
use Rattle.std.specs.Prelude.{map}
use Rattle.dsn_design.specs.Counts.{counted_number}
use Rattle.dsn_design.proofs.nets.pin_numbers.Given as goal

abbrev pub invariant-loop-pin : goal.invariant-loop-pin
invariant-loop-pin l = l.numbers ≡ map (counted_number l.firsts) (take l.pin-index l.pins)
