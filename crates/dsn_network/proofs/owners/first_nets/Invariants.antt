use Rattle.std.proofs.Common.{◌≡◌, take}
use Rattle.dsn_shapes.specs.declared.parts.PinRef.{PinRef}
use Rattle.dsn_network.specs.Nets.{first_net}
use Rattle.dsn_network.specs.Owners.{net_by, pins_of}
use Rattle.dsn_network.proofs.owners.first_nets.Given as goal

abbrev pub invariant-loop-k : goal.invariant-loop-k
invariant-loop-k l = (q : PinRef) → net_by l.map q ≡ first_net q (pins_of (take l.k l.nets))
