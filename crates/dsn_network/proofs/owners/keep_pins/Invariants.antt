use Rattle.std.proofs.Common.{◌≡◌, take}
use Rattle.std.specs.Prelude.{Some, None, if◌then◌else◌}
use Rattle.std.specs.Option.{option_or}
use Rattle.dsn_shapes.specs.declared.parts.PinRef.{PinRef}
use Rattle.dsn_network.specs.Nets.{has_pin}
use Rattle.dsn_network.specs.Owners.{net_by}
use Rattle.dsn_network.proofs.owners.keep_pins.Given as goal

abbrev pub invariant-loop-pin : goal.invariant-loop-pin
invariant-loop-pin l = (q : PinRef)
    → net_by l.map q ≡ option_or (net_by l.initial.map q) (if has_pin q (take l.pin-index l.pins) then Some l.net
    else None)
