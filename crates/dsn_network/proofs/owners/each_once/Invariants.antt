use Rattle.std.proofs.Common.{◌≡◌, take}
use Rattle.std.specs.Prelude.{is_some}
use Rattle.dsn_shapes.specs.declared.parts.PinRef.{PinRef}
use Rattle.dsn_network.specs.Nets.{each_once, has_pin}
use Rattle.dsn_network.specs.Owners.{net_by}
use Rattle.dsn_network.proofs.owners.each_once.Given as goal

abbrev pub invariant-loop-pin : goal.invariant-loop-pin
invariant-loop-pin l =
    (l.once ≡ each_once (take l.pin-index l.pins)) × ((q : PinRef) → is_some (net_by l.seen q) ≡ has_pin q l.once)
